use Rattle.std.proofs.Common.{◌≡◌, ℕ, [], ◌<◌, false}
use Rattle.schedule.proofs.ticking.Schedule.late.Given as goal
use Rattle.schedule.specs.Schedules.{late_in}
use Rattle.schedule.specs.Tables.{clock_of, moment_of, tasks_of, timed}

abbrev pub invariant-loop-task : goal.invariant-loop-task
invariant-loop-task l = (i : ℕ) → i < l.task → late_in (timed (tasks_of l.self)) (clock_of l.self) (moment_of l.self []) i ≡ false
