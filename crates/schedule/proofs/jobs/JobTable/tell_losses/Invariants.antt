use Rattle.std.proofs.Common.{◌≡◌}
use Rattle.schedule.proofs.jobs.JobTable.tell_losses.Given as goal
use Rattle.schedule.specs.Tables.{state_of}
use Rattle.schedule.specs.Ticks.{lost}

abbrev pub invariant-loop-task : goal.invariant-loop-task
invariant-loop-task g l =
    (g.M.DelayModel.profile l.model ≡ g.M.DelayModel.profile l.initial.model)
    × (g.M.DelayModel.marks l.model
    ≡ lost (g.M.DelayModel.profile l.initial.model) l.to l.task (state_of l.self (g.M.DelayModel.marks l.initial.model)))
