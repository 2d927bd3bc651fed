-- What the rows of a tick make of the worst response of one task.
use Rattle.std.proofs.Common.{◌≡◌, ◌≢◌, ℕ, zero, suc, ◌-◌, ◌<◌, max, List, length, get_or, set, Some, None, Option, refl, ap, ◌∙◌, ⊎_elim, subst, sym, arith}
use Rattle.std.proofs.lemmas.Bool.{cases_eq}
use Rattle.std.proofs.lemmas.List.{get_or-replicate, get_or-set_other, get_or-set_same, length-replicate, length-set}
use Rattle.schedule.specs.Rows.{delayed, finished, job_row, no_summary, switch_row}
use Rattle.schedule.specs.Schedules.{moment, row_summaries}
use Rattle.schedule.specs.States.{Setting}
use Rattle.schedule.specs.declared.rows.JobRow.{JobRow}
use Rattle.schedule.specs.declared.rows.SwitchRow.{SwitchRow}
use Rattle.schedule.specs.declared.summaries.Summary.{Summary}

-- The worst response that the summaries ys tell of task i.
abbrev pub worst_at : List Summary → ℕ → ℕ
worst_at ys i = (get_or ys i no_summary).worst

-- rows change summaries in their places
length_after_rows : (o : Option SwitchRow) (p : Option JobRow) (ys : List Summary) → length (finished p (delayed o ys)) ≡ length ys
length_after_rows None None ys = refl
length_after_rows None (Some q) ys = simp length-set
length_after_rows (Some r) None ys = simp length-set
length_after_rows (Some r) (Some q) ys = simp length-set

pub length_row_summaries : (c : Setting) (t : ℕ) → length (row_summaries c t) ≡ length c.tasks
unfolding row_summaries
length_row_summaries c zero = length-replicate (length c.tasks) no_summary
length_row_summaries c (suc t) =
    length_after_rows (switch_row c t (moment c t)) (job_row c t (moment c t)) (row_summaries c t) ∙ length_row_summaries c t

-- one summary put in its place changes that task alone
worst_own : (ys : List Summary) (y : Summary) (i j : ℕ) → i ≡ j → i < length ys → worst_at (set ys j y) i ≡ y.worst
worst_own ys y i j e l = rw e (ap (λ (z : Summary). z.worst) (get_or-set_same ys j y no_summary (subst (λ (k : ℕ). k < length ys) e l)))

worst_other : (ys : List Summary) (y : Summary) (i j : ℕ) → i ≢ j → worst_at (set ys j y) i ≡ worst_at ys i
worst_other ys y i j e = ap (λ (z : Summary). z.worst) (get_or-set_other ys j i y no_summary e)

-- a switch changes no response
worst_delayed : (o : Option SwitchRow) (ys : List Summary) (i : ℕ) → i < length ys → worst_at (delayed o ys) i ≡ worst_at ys i
worst_delayed None ys i l = refl
worst_delayed (Some r) ys i l =
    ⊎_elim (λ e. worst_own ys _ i r.task e l ∙ ap (worst_at ys) (sym e)) (λ e. worst_other ys _ i r.task e) (cases_eq i r.task)

module _ (c : Setting) (t i : ℕ) (known : i < length c.tasks) where
  before : List Summary
  before = delayed (switch_row c t (moment c t)) (row_summaries c t)

  room : i < length before
  unfolding before
  room = omega (arith, known, length_after_rows (switch_row c t (moment c t)) None (row_summaries c t), length_row_summaries c t)

  worst_before : worst_at before i ≡ worst_at (row_summaries c t) i
  unfolding before
  worst_before = worst_delayed (switch_row c t (moment c t)) (row_summaries c t) i (omega (arith, known, length_row_summaries c t))

  -- a job of the task that finishes with the tick counts
  pub worst_finished : (row : JobRow) → job_row c t (moment c t) ≡ Some row → row.task ≡ i
      → worst_at (row_summaries c (suc t)) i ≡ max (worst_at (row_summaries c t) i) (row.finish - row.release)
  unfolding row_summaries before
  worst_finished row h e =
      ap (λ (o : Option JobRow). worst_at (finished o before) i) h
      ∙ (worst_own before _ i row.task (sym e) room
      ∙ ap (λ (w : ℕ). max w (row.finish - row.release)) (ap (worst_at before) e ∙ worst_before))

  -- nothing else does
  pub worst_unfinished : ((row : JobRow) → job_row c t (moment c t) ≡ Some row → row.task ≢ i)
      → worst_at (row_summaries c (suc t)) i ≡ worst_at (row_summaries c t) i
  unfolding row_summaries before
  worst_unfinished none = go (job_row c t (moment c t)) refl ∙ worst_before
    where
      go : (o : Option JobRow) → job_row c t (moment c t) ≡ o → worst_at (finished o before) i ≡ worst_at before i
      go None h = refl
      go (Some row) h = worst_other before _ i row.task (λ e. none row h (sym e))

-- before the first tick no task has a response
pub worst_first : (c : Setting) (i : ℕ) → i < length c.tasks → worst_at (row_summaries c 0) i ≡ 0
unfolding row_summaries
worst_first c i known = ap (λ (z : Summary). z.worst) (get_or-replicate (length c.tasks) i no_summary no_summary known)
