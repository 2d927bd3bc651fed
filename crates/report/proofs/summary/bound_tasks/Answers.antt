use Rattle.std.proofs.Common.{◌+◌, ◌≤◌, drop, length, List, get_or, ap, arith, length-append}
use Rattle.std.proofs.lemmas.List.{at_drop_more}
use Rattle.report.specs.Reports.{task_line, task_lines}
use Rattle.schedule.specs.Rows.{no_summary}
use Rattle.schedule.specs.declared.summaries.Summary.{Summary}
use Rattle.report.proofs.summary.bound_tasks.Goals as goal

pub loop-task-preserved : goal.loop-task-preserved
loop-task-preserved c =
    let task = c.loop-task.task in
    let line : length (task_line task (get_or c.args.summaries.now task no_summary)) ≤ 84 = rw c.task_words.ensures at c.bound_line.ensures in
    let next = ap length (at_drop_more (λ (z : List Summary). task_lines task z) c.args.summaries.now task no_summary (omega arith)) in
    let both = length-append (task_line task (get_or c.args.summaries.now task no_summary)) (task_lines (task + 1) (drop (task + 1) c.args.summaries.now)) in
    omega (arith, c.loop-task.invariant, line, next, both)
