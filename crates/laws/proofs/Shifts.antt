-- One hyperperiod later, a tick does the same.
use Rattle.std.proofs.Common.{◌≡◌, ℕ, suc, ◌+◌, ◌-◌, ◌*◌, ◌<◌, ◌≤◌, Bool, cond, ◌&&◌, eqb, List, map, length, get_or, sym, refl, ap, ◌∙◌, arith}
use Rattle.std.proofs.lemmas.Bool.Decides.{nat_tests}
use Rattle.std.specs.List.{range_with_len}
use Rattle.dispatch.specs.declared.candidates.Candidate.{Candidate}
use Rattle.plan.specs.declared.tasks.Task.{Task}
use Rattle.schedule.proofs.Eaches.{counted_same, each_same}
use Rattle.schedule.specs.Each.{each}
use Rattle.schedule.specs.Jobs.{deadline_at, due, entered, fresh, late_job, live_job, release, shown, vacant}
use Rattle.schedule.specs.Schedules.{from}
use Rattle.schedule.specs.States.{Setting, State, task_of}
use Rattle.schedule.specs.declared.slots.Slot.{Slot}
use Rattle.laws.specs.Repetition.{Doing, doing, doing_of, next_at}
use Rattle.laws.specs.Settings.{Admitted}
use Rattle.laws.proofs.Counts.{number_later, number_positive, number_at}
use Rattle.laws.proofs.Plans.{planned}

eqb_later : (a b h : ℕ) → eqb (a + h) (b + h) ≡ eqb a b
eqb_later a b h = grind (arith, nat_tests)

-- Of one task: so many periods and so many jobs later, the instant lies as it lay before.
due_later : (k : Task) (t n q : ℕ) → due (t + q * k.period) k (n + q) ≡ due t k n
due_later k t n q =
    let e : release k (n + q) ≡ release k n + q * k.period = omega arith in
    rw e (eqb_later t (release k n) (q * k.period))

deadline_later : (k : Task) (n q : ℕ) → 1 ≤ n → deadline_at k (live_job (n + q)) ≡ deadline_at k (live_job n) + q * k.period
deadline_later k n q l =
    let m : n + q - 1 ≡ n - 1 + q = omega arith in
    rw m (omega arith)

shown_later : (k : Task) (t n q : ℕ) (s : Slot) → 1 ≤ n → shown (t + q * k.period) k (n + q) s ≡ shown t k n s
shown_later k t n q s l =
    let e : deadline_at k (live_job (n + q)) - (t + q * k.period) ≡ deadline_at k (live_job n) - t = omega (arith, deadline_later k n q l) in
    ap (λ (u : ℕ). record { live = s.live; left = s.left; owed = s.owed; begun = s.begun; until = cond s.live u 0 }) e

late_later : (k : Task) (t n q : ℕ) (s : Slot) → 1 ≤ n → late_job (t + q * k.period) k (n + q) s ≡ late_job t k n s
late_later k t n q s l =
    ap (λ (d : ℕ). s.live && eqb (t + q * k.period) d) (deadline_later k n q l)
    ∙ ap (λ (b : Bool). s.live && b) (eqb_later t (deadline_at k (live_job n)) (q * k.period))

-- Of the tasks of an admitted plan: from `from` on, the same one hyperperiod later.
module _ (c : Setting) (a : Admitted c) (i : ℕ) (l : i < length c.tasks) where
  due_same : (t : ℕ) → from c ≤ t → due (t + c.hyperperiod) (task_of c i) (number_at c (t + c.hyperperiod) i) ≡ due t (task_of c i) (number_at c t i)
  due_same t o =
      let p = planned c a i l in
      ap (due (t + c.hyperperiod) (task_of c i)) (number_later c t i a l (omega (arith, p.reached)))
      ∙ (ap (λ (h : ℕ). due (t + h) (task_of c i) (number_at c t i + p.turns)) p.whole ∙ due_later (task_of c i) t (number_at c t i) p.turns)

  entered_same : (t : ℕ) → from c ≤ t → (s : Slot)
      → entered (t + c.hyperperiod) (task_of c i) (number_at c (t + c.hyperperiod) i) s ≡ entered t (task_of c i) (number_at c t i) s
  entered_same t o s = ap (λ (b : Bool). cond b (fresh (task_of c i)) s) (due_same t o)

  shown_same : (t : ℕ) → from c ≤ t → (s : Slot)
      → shown (t + c.hyperperiod) (task_of c i) (number_at c (suc (t + c.hyperperiod)) i) s ≡ shown t (task_of c i) (number_at c (suc t) i) s
  shown_same t o s =
      let p = planned c a i l in
      let after : suc (t + c.hyperperiod) ≡ suc t + c.hyperperiod = omega arith in
      ap (λ (u : ℕ). shown (t + c.hyperperiod) (task_of c i) (number_at c u i) s) after
      ∙ (ap (λ (n : ℕ). shown (t + c.hyperperiod) (task_of c i) n s) (number_later c (suc t) i a l (omega (arith, p.reached)))
      ∙ (ap (λ (h : ℕ). shown (t + h) (task_of c i) (number_at c (suc t) i + p.turns) s) p.whole
      ∙ shown_later (task_of c i) t (number_at c (suc t) i) p.turns s (number_positive c (suc t) i a l (omega (arith, p.reached)))))

  -- before the releases of its instant, so the first one has to be over
  pub late_same : (t : ℕ) → from c < t → (s : Slot)
      → late_job (t + c.hyperperiod) (task_of c i) (number_at c (t + c.hyperperiod) i) s ≡ late_job t (task_of c i) (number_at c t i) s
  late_same t o s =
      let p = planned c a i l in
      ap (λ (n : ℕ). late_job (t + c.hyperperiod) (task_of c i) n s) (number_later c t i a l (omega (arith, p.reached)))
      ∙ (ap (λ (h : ℕ). late_job (t + h) (task_of c i) (number_at c t i + p.turns) s) p.whole
      ∙ late_later (task_of c i) t (number_at c t i) p.turns s (number_positive c t i a l (omega (arith, p.reached))))

-- The slots after the releases of instant t, and what the policy is shown of them.
abbrev entered_all : Setting → ℕ → List Slot → List Slot
entered_all c t ss = each vacant (length c.tasks) (λ i s. entered t (task_of c i) (number_at c t i) s) ss

abbrev shown_all : Setting → ℕ → List Slot → List Candidate
shown_all c t ss = map (λ i. shown t (task_of c i) (number_at c (suc t) i) (get_or ss i vacant)) (range_with_len 0 (length c.tasks))

-- What a tick does once these two are known: the instant has no more part in it.
abbrev done : Setting → State → List Slot → List Candidate → Doing
done c s ss rows = doing_of c (record { slots = ss; marks = s.marks; running = s.running }) (c.rule rows s.running)

doing_done : (c : Setting) (t : ℕ) (s : State) → doing c t s ≡ done c s (entered_all c t s.slots) (shown_all c t (entered_all c t s.slots))
unfolding doing next_at
doing_done c t s = refl

entered_all_same : (c : Setting) → Admitted c → (t : ℕ) → from c ≤ t → (ss : List Slot) → entered_all c (t + c.hyperperiod) ss ≡ entered_all c t ss
entered_all_same c a t o ss =
    each_same vacant (length c.tasks)
    (λ i s. entered (t + c.hyperperiod) (task_of c i) (number_at c (t + c.hyperperiod) i) s)
    (λ i s. entered t (task_of c i) (number_at c t i) s)
    ss
    (λ i l s. entered_same c a i l t o s)

shown_all_same : (c : Setting) → Admitted c → (t : ℕ) → from c ≤ t → (ss : List Slot) → shown_all c (t + c.hyperperiod) ss ≡ shown_all c t ss
shown_all_same c a t o ss =
    counted_same
    (λ i. shown (t + c.hyperperiod) (task_of c i) (number_at c (suc (t + c.hyperperiod)) i) (get_or ss i vacant))
    (λ i. shown t (task_of c i) (number_at c (suc t) i) (get_or ss i vacant))
    0 (length c.tasks)
    (λ i z l. shown_same c a i (omega arith) t o (get_or ss i vacant))

pub doing_same : (c : Setting) → Admitted c → (t : ℕ) (s : State) → from c ≤ t → doing c (t + c.hyperperiod) s ≡ doing c t s
doing_same c a t s o =
    doing_done c (t + c.hyperperiod) s
    ∙ (ap (λ ss. done c s ss (shown_all c (t + c.hyperperiod) ss)) (entered_all_same c a t o s.slots)
    ∙ (ap (done c s (entered_all c t s.slots)) (shown_all_same c a t o (entered_all c t s.slots)) ∙ sym (doing_done c t s)))
