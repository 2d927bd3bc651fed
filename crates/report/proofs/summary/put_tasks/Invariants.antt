use Rattle.std.proofs.Common.{◌*◌, drop}
use Rattle.report.specs.Reports.{task_lines}
use Rattle.report.proofs.Taking.{TookUpTo}
use Rattle.report.proofs.summary.put_tasks.Given as goal

abbrev pub invariant-loop-task : goal.invariant-loop-task
invariant-loop-task g l = TookUpTo g.S.Sink.took (84 * l.task) (task_lines 0 l.summaries) (task_lines l.task (drop l.task l.summaries)) l.initial.sink l.sink
