-- What is shown of a run is true of its schedule. Assumes nothing.
--     worst_in x i          the worst response that x shows of task i
--     WorstShown c x        it is the greatest of the responses of the task's finished jobs and of the age of its live one
--     TrueOf c x            what x shows is true of the schedule of c
use Rattle.std.specs.Prelude.{◌≡◌, ℕ, ◌<◌, ◌≤◌, length, slice_index_or}
use Rattle.run.specs.Runs.{Shown}
use Rattle.schedule.specs.Responses.{IsWorst}
use Rattle.schedule.specs.Rows.{no_summary}
use Rattle.schedule.specs.States.{Setting, task_of}
use Rattle.standing.specs.Decisions.{Decision}
use Rattle.standing.specs.declared.standings.Standing.TheVariants.{Misses}

abbrev pub worst_in : Shown → ℕ → ℕ
worst_in x i = (slice_index_or x.summaries i no_summary).worst

-- Up to the instant shown, however the schedule stands there.
abbrev pub WorstShown : Setting → Shown → Type 0
WorstShown c x = (i : ℕ) → i < length c.tasks → IsWorst c x.clock i (worst_in x i)

pub record TrueOf (c : Setting) (x : Shown) : Type 0 where
  -- what the standing says of the schedule without end: first late job, never late, and it decides
  pub decision : Decision c x.clock x.standing
  -- no finished job took longer than the worst response of its task, no live one is older, and one of them is what it tells
  pub worst : WorstShown c x
  -- at MISSES the clock is the instant that is named, and the worst response of the late task is at least its deadline
  pub late_shown : (u i m : ℕ) → x.standing ≡ Misses u i m
      → (u ≡ x.clock) × ((task_of c i).deadline ≤ worst_in x i)
