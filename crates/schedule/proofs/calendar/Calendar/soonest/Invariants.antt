use Rattle.std.proofs.Common.{ℕ, ◌<◌, ◌≤◌, get_or}
use Rattle.schedule.proofs.calendar.Calendar.soonest.Given as goal
use Rattle.schedule.specs.Calendars.{no_job}

abbrev pub invariant-loop-task : goal.invariant-loop-task
invariant-loop-task l = record {
  awaited : (i : ℕ) → i < l.task → l.self.clock ≤ (get_or l.self.jobs i no_job).live_deadline → l.soonest ≤ (get_or l.self.jobs i no_job).live_deadline;
  later : (i : ℕ) → i < l.task → l.soonest ≤ (get_or l.self.jobs i no_job).release;
}
