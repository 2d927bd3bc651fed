use Rattle.std.proofs.Common.{◌≡◌, ◌-◌}
use Rattle.schedule.proofs.jobs.JobTable.step.Given as goal
use Rattle.schedule.specs.Each.{each}
use Rattle.schedule.specs.JobTables.{delays_in, slots_in, untils_in}

abbrev pub invariant-loop-task : goal.invariant-loop-task
invariant-loop-task l = record {
  slots : slots_in l.self ≡ slots_in l.initial.self;
  untils : untils_in l.self ≡ each 0 l.task (λ _ n. n - 1) (untils_in l.initial.self);
  running : l.self.running ≡ l.initial.self.running;
  delays : delays_in l.self ≡ delays_in l.initial.self;
}
