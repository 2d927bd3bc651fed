-- The laws of repetition.
use Rattle.std.proofs.Common.{◌≡◌, ℕ, ◌+◌, ◌*◌, ◌<◌, true, ◌&&◌, ltb, List, length, get_or, sym, ap, ◌∙◌, subst, ⊎_elim}
use Rattle.std.proofs.lemmas.Bool.{and_from, and_parts, both_ways, cases_Bool, ltb-true}
use Rattle.cycle.proofs.Futures.{states_after}
use Rattle.cycle.proofs.Lateness.{never}
use Rattle.schedule.specs.Jobs.{late_job}
use Rattle.schedule.specs.Schedules.{NeverLate, OnTimeTo, from, late, late_in, sample, state_at}
use Rattle.schedule.specs.States.{Setting, State, slot_of, task_of}
use Rattle.laws.specs.Repetition.{Repetition, placed}
use Rattle.laws.specs.Settings.{Admitted}
use Rattle.laws.proofs.Counts.{next_by_instant, number_at}
use Rattle.laws.proofs.Machines.{machine, machine_samples, machine_state, state_onward}
use Rattle.laws.proofs.Shifts.{doing_same, late_same}

pub equal_futures : (c : Setting) → Admitted c → (i j : ℕ) → sample c i ≡ sample c j
    → (x : ℕ) → state_at c (from c + i * c.hyperperiod + x) ≡ state_at c (from c + j * c.hyperperiod + x)
equal_futures c a i j e x =
    sym (machine_state c a (from c + i * c.hyperperiod + x))
    ∙ (states_after (machine c a) i j (machine_samples c a i j e) x ∙ machine_state c a (from c + j * c.hyperperiod + x))

-- Some job is late at instant t, where s is the state then.
abbrev SomeLate : Setting → ℕ → State → Type 0
SomeLate c t s = (i : ℕ) × (late_in c t (placed c t s) i ≡ true)

late_placed : (c : Setting) (t i : ℕ) → late c t i ≡ late_in c t (placed c t (state_at c t)) i
late_placed c t i =
    ap (λ (ns : List ℕ). ltb i (length c.tasks) && late_job t (task_of c i) (get_or ns i 0) (slot_of (state_at c t) i)) (next_by_instant c t)

-- lateness repeats with the ticks
late_before : (c : Setting) → Admitted c → (t : ℕ) (s : State) → from c < t → SomeLate c (t + c.hyperperiod) s → SomeLate c t s
late_before c a t s o (i, e) =
    let p = and_parts (ltb i (length c.tasks)) (late_job (t + c.hyperperiod) (task_of c i) (number_at c (t + c.hyperperiod) i) (slot_of s i)) e in
    let l : i < length c.tasks = ltb-true i (length c.tasks) p.0 in
    (i, and_from _ _ p.0 (sym (late_same c a i l t o (slot_of s i)) ∙ p.1))

pub never_late : (c : Setting) → Admitted c → (i k : ℕ) → i < k → sample c k ≡ sample c i → OnTimeTo c (from c + k * c.hyperperiod) → NeverLate c
never_late c a i k h e clean t j = ⊎_elim (λ l. absurd (none t (j, sym (late_placed c t j) ∙ l))) (λ n. n) (cases_Bool (late c t j))
  where
    none : (u : ℕ) → SomeLate c u (state_at c u) → ⊥
    none u l =
        never (machine c a) (SomeLate c) (late_before c a) i k h (machine_samples c a k i e)
        (λ v o x. let y = subst (SomeLate c v) (machine_state c a v) x in both_ways (late c v y.0) (clean v o y.0) (late_placed c v y.0 ∙ y.1))
        u (subst (SomeLate c u) (sym (machine_state c a u)) l)

pub repetition : (c : Setting) → Admitted c → Repetition c
repetition c a = record {
  numbers = next_by_instant c;
  onward = state_onward c;
  same = doing_same c a;
  futures = equal_futures c a;
  never = never_late c a;
}
