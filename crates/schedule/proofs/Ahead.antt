-- The deadlines that the table of jobs counts down to are those of the calendar.
use Rattle.std.proofs.Common.{◌≡◌, ◌≢◌, ℕ, ◌+◌, ◌-◌, ◌<◌, ◌≤◌, Bool, true, false, cond, eqb, List, map, take, length, get_or, set, Some, None, refl, sym, ap, ◌∙◌, ⊎_elim, arith}
use Rattle.std.proofs.lemmas.Bool.{cases_eq}
use Rattle.std.proofs.Math.ListN.{get_or-map}
use Rattle.std.proofs.lemmas.List.{ext_get_or, get_or-set_other, get_or-set_same, get_or-take, length-take-le}
use Rattle.std.proofs.lemmas.List.FromFn.{get_or-map-range_with_len, length-map-range_with_len}
use Rattle.std.specs.List.{range_with_len}
use Rattle.delay.specs.Marks.{changed, zero_mark}
use Rattle.dispatch.specs.Rules.{absent}
use Rattle.dispatch.specs.declared.candidates.Candidate.{Candidate}
use Rattle.plan.specs.Tasks.{zero_task}
use Rattle.plan.specs.declared.tasks.Task.{Task}
use Rattle.schedule.proofs.Eaches.{each_at}
use Rattle.schedule.proofs.Places.{placed_set, set_default}
use Rattle.schedule.specs.Each.{each}
use Rattle.schedule.specs.JobTables.{slot_in}
use Rattle.schedule.specs.Jobs.{shown, vacant}
use Rattle.schedule.specs.States.{Setting, State, slot_of}
use Rattle.schedule.specs.Ticks.{began, is_running, resumed, served, spent, switched, worked}
use Rattle.schedule.specs.declared.slots.Slot.{Slot}

-- of each task, the ticks until the deadline of its live job at instant t
abbrev pub Ahead : ℕ → List Task → List ℕ → List Slot → List ℕ → Type 0
Ahead t ks ns ss us = (i : ℕ) → i < length ks → get_or us i 0 ≡ (shown t (get_or ks i zero_task) (get_or ns i 0) (get_or ss i vacant)).until

-- a job is released
pub ahead_entered : (t : ℕ) (ks : List Task) (ns : List ℕ) (ss : List Slot) (us : List ℕ) (j n : ℕ) (s : Slot) (u : ℕ) → j < length ns → j < length ss → j < length us → u ≡ (shown t (get_or ks j zero_task) n s).until → Ahead t ks ns ss us → Ahead t ks (set ns j n) (set ss j s) (set us j u)
ahead_entered t ks ns ss us j n s u in_ns in_ss in_us new h i l = ⊎_elim here there (cases_eq i j) where
  here : i ≡ j → get_or (set us j u) i 0 ≡ (shown t (get_or ks i zero_task) (get_or (set ns j n) i 0) (get_or (set ss j s) i vacant)).until
  here e = rw (e, get_or-set_same us j u 0 in_us, get_or-set_same ns j n 0 in_ns, get_or-set_same ss j s vacant in_ss) new

  there : i ≢ j → get_or (set us j u) i 0 ≡ (shown t (get_or ks i zero_task) (get_or (set ns j n) i 0) (get_or (set ss j s) i vacant)).until
  there e = rw (get_or-set_other us j i u 0 e, get_or-set_other ns j i n 0 e, get_or-set_other ss j i s vacant e) (h i l)

-- a job finishes
pub ahead_cleared : (t : ℕ) (ks : List Task) (ns : List ℕ) (ss : List Slot) (us : List ℕ) (j : ℕ) → Ahead t ks ns ss us → Ahead t ks ns (set ss j vacant) (set us j 0)
ahead_cleared t ks ns ss us j h i l = ⊎_elim here there (cases_eq i j) where
  here : i ≡ j → get_or (set us j 0) i 0 ≡ (shown t (get_or ks i zero_task) (get_or ns i 0) (get_or (set ss j vacant) i vacant)).until
  here e = rw (e, set_default us j 0, set_default ss j vacant) refl

  there : i ≢ j → get_or (set us j 0) i 0 ≡ (shown t (get_or ks i zero_task) (get_or ns i 0) (get_or (set ss j vacant) i vacant)).until
  there e = rw (get_or-set_other us j i 0 0 e, get_or-set_other ss j i vacant vacant e) (h i l)

-- the same jobs are live
pub ahead_kept : (t : ℕ) (ks : List Task) (ns : List ℕ) (ss rs : List Slot) (us : List ℕ) → ((i : ℕ) → (get_or rs i vacant).live ≡ (get_or ss i vacant).live) → Ahead t ks ns ss us → Ahead t ks ns rs us
ahead_kept t ks ns ss rs us same h i l = rw (same i) (h i l)

-- the clock goes on
pub ahead_stepped : (t : ℕ) (ks : List Task) (ns : List ℕ) (ss : List Slot) (us : List ℕ) → length ks ≤ length us → Ahead t ks ns ss us → Ahead (t + 1) ks ns ss (each 0 (length ks) (λ _ n. n - 1) us)
ahead_stepped t ks ns ss us few h i l =
    each_at 0 (length ks) (λ _ n. n - 1) us i 0 l (omega (arith, l, few)) ∙ ap (λ (n : ℕ). n - 1) (h i l) ∙ less (get_or ss i vacant).live _
  where
    less : (b : Bool) (d : ℕ) → cond b (d - t) 0 - 1 ≡ cond b (d - (t + 1)) 0
    less true d = omega arith
    less false d = omega arith

-- so the rows of the table are those that a policy is to be shown
pub rows_shown : (t : ℕ) (ks : List Task) (ns : List ℕ) (rows : List Candidate) → length ks ≤ length rows → Ahead t ks ns (map slot_in rows) (map (λ (r : Candidate). r.until) rows)
    → take (length ks) rows ≡ map (λ i. shown t (get_or ks i zero_task) (get_or ns i 0) (get_or (map slot_in rows) i vacant)) (range_with_len 0 (length ks))
rows_shown t ks ns rows few h = ext_get_or absent _ _ (size ∙ sym (length-map-range_with_len row 0 (length ks))) each_row where
  row : ℕ → Candidate
  row i = shown t (get_or ks i zero_task) (get_or ns i 0) (get_or (map slot_in rows) i vacant)

  size : length (take (length ks) rows) ≡ length ks
  size = length-take-le (length ks) rows few

  each_row : (i : ℕ) → i < length (take (length ks) rows) → get_or (take (length ks) rows) i absent ≡ get_or (map row (range_with_len 0 (length ks))) i absent
  each_row i l =
      let below : i < length ks = omega (arith, l, size) in
      let slot = sym (get_or-map slot_in rows i absent) in
      let until = sym (get_or-map (λ (r : Candidate). r.until) rows i absent) ∙ h i below in
      get_or-take (length ks) rows i absent below
      ∙ (λ k. record { live = (slot k).live; left = (slot k).left; owed = (slot k).owed; begun = (slot k).begun; until = until k })
      ∙ sym (get_or-map-range_with_len row 0 (length ks) i i absent below (omega arith))

module _ (c : Setting) (j : ℕ) where
  abbrev LiveAs : State → State → Type 0
  LiveAs s z = (i : ℕ) → (slot_of z i).live ≡ (slot_of s i).live

  switched_live : (s : State) → LiveAs s (switched c j s)
  switched_live s = go (is_running s j) (slot_of s j).begun where
    go : (r d : Bool) → LiveAs s (cond {A = State} r s (cond {A = State} d (resumed c j s) (began c j s)))
    go true d = λ i. refl
    go false true = placed_set (λ i v. v.live ≡ (slot_of s i).live) vacant s.slots j _ refl (λ i. refl)
    go false false = placed_set (λ i v. v.live ≡ (slot_of s i).live) vacant s.slots j _ refl (λ i. refl)

  spent_live : (s : State) → LiveAs s (spent c j s)
  spent_live s = placed_set (λ i v. v.live ≡ (slot_of s i).live) vacant s.slots j (worked (slot_of s j)) refl (λ i. refl)

  -- the job of j has the core for a tick
  pub ahead_served : (t : ℕ) (ks : List Task) (ns : List ℕ) (s : State) (us : List ℕ) → Ahead t ks ns s.slots us → Ahead t ks ns (served c (Some j) s).slots (cond (eqb (slot_of (spent c j (switched c j s)) j).left 0) (set us j 0) us)
  ahead_served t ks ns s us h = go (eqb (slot_of w j).left 0) where
    w : State
    w = spent c j (switched c j s)

    same : (i : ℕ) → (get_or w.slots i vacant).live ≡ (get_or s.slots i vacant).live
    same i = spent_live (switched c j s) i ∙ switched_live s i

    kept : Ahead t ks ns w.slots us
    kept = ahead_kept t ks ns s.slots w.slots us same h

    go : (b : Bool) → Ahead t ks ns (cond {A = State} b (record { slots = set w.slots j vacant; marks = changed w.marks j (λ _. zero_mark); running = None }) (record { slots = w.slots; marks = w.marks; running = Some j })).slots (cond b (set us j 0) us)
    go true = ahead_cleared t ks ns w.slots us j kept
    go false = kept
