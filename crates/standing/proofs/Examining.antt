-- What an instant shows says which jobs are late then, and whether a sample repeats.
use Rattle.std.proofs.Common.{◌≡◌, ℕ, suc, ◌<◌, ◌≤◌, Bool, true, false, cond, leb, ltb, length, Some, None, Option, sym, refl, ap, ◌∙◌, subst, ⊎_elim, arith}
use Rattle.std.proofs.lemmas.Bool.{and_from, and_left, and_parts, both_ways, cases_Bool, eq-eqb, eqb-true, le-leb, leb-true, ltb-true}
use Rattle.std.proofs.Math.Nat.{le-mul_of_pos_right}
use Rattle.cycle.proofs.Compared.{compared_right}
use Rattle.cycle.specs.Comparisons.{compared_with}
use Rattle.dispatch.specs.Rules.{first_such}
use Rattle.laws.proofs.Plans.{hyperperiod_positive}
use Rattle.laws.specs.Settings.{Admitted}
use Rattle.schedule.specs.Jobs.{live_job}
use Rattle.schedule.specs.Schedules.{OnTime, from, late, late_named, moment, sample}
use Rattle.schedule.specs.StateLaws.{equal_same}
use Rattle.schedule.specs.States.{Setting, next_of}
use Rattle.standing.specs.Decisions.{Repeated}
use Rattle.standing.specs.Standings.{compared, examined, repeats, sample_at, seen, taken}
use Rattle.standing.specs.declared.events.Event.{Event}
use Rattle.standing.specs.declared.events.Event.TheVariants.{Late, Repeats, Nothing}
use Rattle.standing.proofs.Comparing.{compared_once, taken_once}
use Rattle.standing.proofs.Firsts.{First, first_is}

-- No job is late at instant t, and no sample taken then equals the one that it is compared with.
abbrev pub Quiet : Setting → ℕ → Type 0
Quiet c t = OnTime c t × ((k p : ℕ) → Repeated c t k p → ⊥)

-- What the event says of instant t.
abbrev pub Shows : Setting → ℕ → Event → Type 0
Shows c t (Late l) = (late c t l.task ≡ true) × (l.job ≡ live_job (next_of (moment c t) l.task)) × ((j : ℕ) → j < l.task → late c t j ≡ false)
Shows c t (Repeats r) = OnTime c t × Repeated c t r.sample r.earlier
Shows c t Nothing = Quiet c t

-- only a task of the plan can be late
pub on_time : (c : Setting) (t : ℕ) → ((i : ℕ) → i < length c.tasks → late c t i ≡ false) → OnTime c t
on_time c t h i = ⊎_elim (λ e. h i (ltb-true i _ e)) (λ e. and_left _ _ e) (cases_Bool (ltb i (length c.tasks)))

-- sample k is taken at instant k or later
pub not_before : (c : Setting) → Admitted c → (t k p : ℕ) → Repeated c t k p → k ≤ t
not_before c a t k p r = let least = le-mul_of_pos_right k (hyperperiod_positive c a) in omega (arith, least, r.taken)

module _ (c : Setting) (a : Admitted c) (t : ℕ) where
  taken_at : (k p : ℕ) → Repeated c t k p → (k < suc t) × (taken c t k ≡ true)
  taken_at k p r = (omega (arith, not_before c a t k p r), and_from _ _ (le-leb 1 k r.positive) (eq-eqb t _ r.taken))

  repeat_of : (k : ℕ) → taken c t k ≡ true → repeats c k ≡ true → Repeated c t k (compared_with k)
  repeat_of k h e =
      let parts = and_parts (leb 1 k) _ h in
      let positive = leb-true 1 k parts.0 in
      record { positive = positive; taken = eqb-true t _ parts.1; compared = compared_right k positive; equal = (equal_same _ _).0 e }

  -- only one sample is taken at an instant, and it is compared with one only
  repeats_of : (j k p : ℕ) → taken c t j ≡ true → Repeated c t k p → repeats c j ≡ true
  repeats_of j k p h r =
      let same : j ≡ k = taken_once (from c) c.hyperperiod j k (hyperperiod_positive c a) (sym (eqb-true t _ (and_parts (leb 1 j) _ h).1) ∙ r.taken) in
      let other : p ≡ compared_with k = compared_once k p (compared_with k) r.compared (compared_right k r.positive) in
      subst (λ (n : ℕ). repeats c n ≡ true) (sym same) ((equal_same _ _).1 (r.equal ∙ ap (sample c) other))

  compared_shows : OnTime c t → (o : Option ℕ) → First (suc t) (taken c t) o → Shows c t (compared c o)
  compared_shows on None none = (on, λ k p r. let at = taken_at k p r in both_ways _ (none k at.0) at.1)
  compared_shows on (Some j) h = go (repeats c j) refl
    where
      go : (b : Bool) → repeats c j ≡ b → Shows c t (cond b (Repeats (record { sample = j; earlier = compared_with j })) Nothing)
      go true e = (on, repeat_of j h.1 e)
      go false e = (on, λ k p r. both_ways _ e (repeats_of j k p h.1 r))

  seen_shows : (o : Option ℕ) → First (length c.tasks) (late c t) o → Shows c t (seen (late_named (moment c t) o) (compared c (sample_at c t)))
  seen_shows (Some i) h = (h.1, refl, h.2)
  seen_shows None none = compared_shows (on_time c t none) (sample_at c t) (first_is (suc t) (taken c t))

pub examined_shows : (c : Setting) → Admitted c → (t : ℕ) → Shows c t (examined c t)
unfolding examined
examined_shows c a t = seen_shows c a t (first_such (length c.tasks) (late c t)) (first_is (length c.tasks) (late c t))
