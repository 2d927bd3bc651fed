use Rattle.std.proofs.Common.{◌≡◌, ◌-◌}
use Rattle.planning.proofs.following.follow.Given as goal
use Rattle.planning.specs.Following.{Followed, FreeOf}
use Rattle.run.specs.Runs.{setting_in, shown}

abbrev pub invariant-loop-run : goal.invariant-loop-run
invariant-loop-run g l = record {
  setting : setting_in l.run ≡ setting_in l.initial.run;
  followed : Followed (setting_in l.run) (shown l.run);
  jobs : FreeOf l.jobs;
  switches : FreeOf l.switches;
}

abbrev pub decreases-loop-run : goal.decreases-loop-run
decreases-loop-run g l = 20000000 - (shown l.run).clock
