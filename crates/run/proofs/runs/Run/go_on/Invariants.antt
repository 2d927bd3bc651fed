use Rattle.std.proofs.Common.{◌≡◌, ℕ, ◌+◌, ◌<◌, ◌++◌, None}
use Rattle.row_log.specs.Entries.{entries}
use Rattle.run.proofs.runs.Run.go_on.Given as goal
use Rattle.run.specs.Advances.{asking, stop_after}
use Rattle.run.specs.Followers.{clock_in}
use Rattle.run.specs.Runs.{setting_in}
use Rattle.run.specs.Written.{SameMemory, job_in, switch_in, written}

abbrev pub invariant-loop-done : goal.invariant-loop-done
invariant-loop-done g l = record {
  setting : setting_in l.self ≡ setting_in l.initial.self;
  clock : clock_in l.self.follower ≡ clock_in l.initial.self.follower + l.done;
  jobs : entries l.jobs ≡ entries l.initial.jobs ++ written (job_in (setting_in l.initial.self)) (clock_in l.initial.self.follower) l.done;
  switches : entries l.switches ≡ entries l.initial.switches ++ written (switch_in (setting_in l.initial.self)) (clock_in l.initial.self.follower) l.done;
  job_memory : SameMemory l.initial.jobs l.jobs;
  switch_memory : SameMemory l.initial.switches l.switches;
  going : (u : ℕ) → u < l.done → stop_after (setting_in l.initial.self) (clock_in l.initial.self.follower) (asking l.ticks l.initial.jobs l.initial.switches) u ≡ None;
}
