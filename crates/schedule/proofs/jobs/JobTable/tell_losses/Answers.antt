use Rattle.std.proofs.Common.{rules}
use Rattle.schedule.proofs.Losses.{lost_more}
use Rattle.schedule.proofs.jobs.JobTable.tell_losses.Goals as goal
use Rattle.schedule.specs.Ticks.{lost}

pub loop-task-init : goal.loop-task-init
unfolding lost
loop-task-init g c = search rules

pub loop-task-preserved : goal.loop-task-preserved
loop-task-preserved g c = search (rules, lost_more)
