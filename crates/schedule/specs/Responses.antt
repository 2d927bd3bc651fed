-- The response times of a task that are known at an instant. Assumes nothing.
--     Responded c t i r     a job of task i has finished by instant t, r ticks after its release
--     LiveFor c t i r       a job of task i is live at instant t, r ticks after its release
--     IsWorst c t i w       w is the greatest of these, or 0 up to the first release
use Rattle.std.specs.Prelude.{◌≡◌, ℕ, ◌+◌, ◌<◌, ◌≤◌, ◌⊎◌, true, Some}
use Rattle.schedule.specs.Jobs.{live_job, release}
use Rattle.schedule.specs.Rows.{job_row}
use Rattle.schedule.specs.Schedules.{moment, state_at}
use Rattle.schedule.specs.States.{Setting, next_of, slot_of, task_of}
use Rattle.schedule.specs.declared.rows.JobRow.{JobRow}

-- Some tick before t has written its row.
pub record Responded (c : Setting) (t i r : ℕ) : Type 0 where
  pub tick : ℕ
  pub row : JobRow
  pub before : tick < t
  pub written : job_row c tick (moment c tick) ≡ Some row
  pub task : row.task ≡ i
  pub response : row.finish ≡ row.release + r

-- A job that is due at t is not released yet.
pub record LiveFor (c : Setting) (t i r : ℕ) : Type 0 where
  pub live : (slot_of (state_at c t) i).live ≡ true
  pub age : t ≡ release (task_of c i) (live_job (next_of (moment c t) i)) + r

pub record IsWorst (c : Setting) (t i w : ℕ) : Type 0 where
  -- no job has finished in more ticks
  pub finished : (r : ℕ) → Responded c t i r → r ≤ w
  -- no job has been live for more
  pub live : (r : ℕ) → LiveFor c t i r → r ≤ w
  -- some job has finished in so many, or has been live for so many; or none has been released yet
  pub told : (Responded c t i w ⊎ LiveFor c t i w) ⊎ ((w ≡ 0) × (t ≤ (task_of c i).offset))
