-- What the calendar keeps of each task. Assumes nothing.
--     next_job k n      job n of the task k, as the next one
--     no_job            what stands in the places past the last task
use Rattle.std.specs.Prelude.{ℕ}
use Rattle.plan.specs.declared.tasks.Task.{Task}
use Rattle.schedule.specs.Jobs.{deadline_at, live_job, release}
use Rattle.schedule.specs.declared.calendar.next_job.NextJob.{NextJob}

-- Its release, and the deadline of the live job.
abbrev pub next_job : Task → ℕ → NextJob
next_job k n = record { number = n; release = release k n; live_deadline = deadline_at k (live_job n) }

-- Zeros.
abbrev pub no_job : NextJob
no_job = record { number = 0; release = 0; live_deadline = 0 }
