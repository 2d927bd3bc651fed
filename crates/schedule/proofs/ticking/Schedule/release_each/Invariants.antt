use Rattle.std.proofs.Common.{◌≡◌, []}
use Rattle.schedule.proofs.Releases.{ReleasedTo}
use Rattle.schedule.proofs.ticking.Schedule.release_each.Given as goal
use Rattle.schedule.specs.Tables.{clock_of, moment_of, plan_of, tasks_of, timed}

abbrev pub invariant-loop-task : goal.invariant-loop-task
invariant-loop-task l = record {
  plan : plan_of l.self ≡ plan_of l.initial.self;
  clock : clock_of l.self ≡ clock_of l.initial.self;
  released : ReleasedTo (timed (tasks_of l.initial.self)) (clock_of l.initial.self) l.task (moment_of l.initial.self []) (moment_of l.self []);
}
