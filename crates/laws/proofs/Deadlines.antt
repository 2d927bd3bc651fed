-- While nothing is late, a live job is before its deadline. So it finishes by then, and the next release finds no live job.
use Rattle.std.proofs.Common.{◌≡◌, ℕ, zero, suc, ◌+◌, ◌-◌, ◌<◌, ◌≤◌, Bool, true, false, cond, ltb, length, Some, sym, refl, ap, ◌∙◌, subst, ⊎_elim, arith}
use Rattle.std.proofs.lemmas.Bool.{and_from, both_ways, eq-eqb, eqb-true, lt-ltb}
use Rattle.dispatch.specs.Rules.{NamesLive}
use Rattle.plan.specs.declared.tasks.Task.{Task}
use Rattle.schedule.specs.Jobs.{deadline_at, due, fresh, live_job, release}
use Rattle.schedule.specs.Rows.{job_row}
use Rattle.schedule.specs.Schedules.{OnTime, OnTimeTo, late, moment, state_at}
use Rattle.schedule.specs.States.{Moment, Setting, next_of, slot_of, task_of}
use Rattle.schedule.specs.Ticks.{tick}
use Rattle.schedule.specs.declared.rows.JobRow.{JobRow}
use Rattle.schedule.specs.declared.slots.Slot.{Slot}
use Rattle.laws.specs.Settings.{Admitted}
use Rattle.laws.proofs.Ledgers.{ledger_at}
use Rattle.laws.proofs.Finishes.{row_tells}
use Rattle.plan.proofs.TaskTimes.{Times}
use Rattle.laws.proofs.Counts.{release_last}
use Rattle.laws.proofs.Releases.{next_counted, slot_entered, timed_task}
use Rattle.laws.proofs.Turns.{entry, named_live, turn}

-- The job in the slot s, where n is the number of the next one, has its deadline at t or later.
abbrev Open : Task → ℕ → ℕ → Slot → Type 0
Open k t n s = s.live ≡ true → t ≤ deadline_at k (live_job n)

-- The live job of task i, in the moment x.
abbrev OpenIn : Setting → ℕ → ℕ → Moment → Type 0
OpenIn c i t x = Open (task_of c i) t (next_of x i) (slot_of x.state i)

-- A job has at least one tick until its deadline when it is released.
open_release : (k : Task) (t n : ℕ) (s : Slot) → Times k → Open k (suc t) n s → Open k (suc t) (cond (due t k n) (n + 1) n) (cond (due t k n) (fresh k) s)
open_release k t n s timed h = go (due t k n) refl
  where
    go : (b : Bool) → due t k n ≡ b → Open k (suc t) (cond b (n + 1) n) (cond b (fresh k) s)
    go true e =
        let now : t ≡ release k n = eqb-true t (release k n) e in
        let last : n + 1 - 1 ≡ n = omega arith in
        λ _. rw last (omega (arith, timed.works, timed.able))
    go false e = h

module _ (c : Setting) (a : Admitted c) (live : NamesLive c.rule) (i : ℕ) (known : i < length c.tasks) where
  -- a live job that is not late has one tick more
  open_on : (t : ℕ) → OnTime c t → OpenIn c i t (moment c t) → OpenIn c i (suc t) (moment c t)
  open_on t on h l =
      let before : t ≡ deadline_at (task_of c i) (live_job (next_of (moment c t) i)) → ⊥ =
      λ e. both_ways (late c t i) (on i)
      (and_from (ltb i (length c.tasks)) _ (lt-ltb i (length c.tasks) known)
      (and_from (slot_of (state_at c t) i).live _ l (eq-eqb t (deadline_at (task_of c i) (live_job (next_of (moment c t) i))) e))) in
      omega (arith, h l, before)

  open_entered : (t : ℕ) → OpenIn c i (suc t) (moment c t) → OpenIn c i (suc t) (entry c t)
  open_entered t h =
      rw (next_counted c a i known t, slot_entered c a i known t)
      (open_release (task_of c i) t (next_of (moment c t) i) (slot_of (state_at c t) i) (timed_task c a i known) h)

  -- serving makes no job live
  open_served : (t : ℕ) → OpenIn c i (suc t) (entry c t) → OpenIn c i (suc t) (moment c (suc t))
  unfolding moment tick
  open_served t g l = ⊎_elim (λ r. g (ap (λ (s : Slot). s.live) (sym r.slot) ∙ l)) (λ e. g (named_live c live t i e).1) (turn c t i)

  open_at : (t : ℕ) → ((u : ℕ) → u < t → OnTime c u) → OpenIn c i t (moment c t)
  open_at zero on = λ _. omega arith
  open_at (suc t) on = open_served t (open_entered t (open_on t (on t (omega arith)) (open_at t (λ u b. on u (omega arith)))))

  open_still : (t : ℕ) → OnTimeTo c t → OpenIn c i (suc t) (moment c t)
  open_still t on = open_on t (on t (omega arith)) (open_at t (λ u b. on u (omega arith)))

  open_entry : (t : ℕ) → OnTimeTo c t → OpenIn c i (suc t) (entry c t)
  open_entry t on = open_entered t (open_still t on)

  -- a live job would be past its deadline at the next release
  pub slot_vacated : (t : ℕ) → OnTimeTo c t → due t (task_of c i) (next_of (moment c t) i) ≡ true → (slot_of (state_at c t) i).live ≡ false
  slot_vacated t on d = go (slot_of (state_at c t) i).live refl
    where
      go : (b : Bool) → (slot_of (state_at c t) i).live ≡ b → b ≡ false
      go false l = refl
      go true l =
          let now = eqb-true t (release (task_of c i) (next_of (moment c t) i)) d in
          let last = release_last (task_of c i) (next_of (moment c t) i) ((ledger_at c a live i known t).known l) in
          absurd (omega (arith, now, last, open_still t on l, (timed_task c a i known).constrained))

-- A job that finishes is live in its last tick.
pub finished_in_time : (c : Setting) → Admitted c → NamesLive c.rule → (t : ℕ) (row : JobRow) → OnTimeTo c t → job_row c t (moment c t) ≡ Some row
    → row.finish ≤ row.release + (task_of c row.task).deadline
finished_in_time c a live t row on h =
    let f = row_tells c t row h in
    let P : JobRow → Type 0 = λ r. r.finish ≤ r.release + (task_of c r.task).deadline in
    let there = named_live c live t f.task f.core in
    let before = open_entry c a live f.task there.0 t on there.1 in
    subst P f.is (omega arith)
