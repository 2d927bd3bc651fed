use Rattle.std.proofs.Common.{◌+◌, ◌*◌, ◌≤◌, drop, length}
use Rattle.report.specs.Reports.{task_lines}
use Rattle.report.proofs.summary.bound_tasks.Given as goal

abbrev pub invariant-loop-task : goal.invariant-loop-task
invariant-loop-task l = length (task_lines 0 l.summaries) ≤ 84 * l.task + length (task_lines l.task (drop l.task l.summaries))
