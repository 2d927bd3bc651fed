use Rattle.std.proofs.Common.{get_or, List, refl, arith}
use Rattle.std.proofs.lemmas.List.{at_drop_more}
use Rattle.report.specs.Reports.{task_line, task_lines}
use Rattle.report.specs.Sinks.{Reaches}
use Rattle.schedule.specs.Rows.{no_summary}
use Rattle.schedule.specs.declared.summaries.Summary.{Summary}
use Rattle.report.proofs.Taking.{up_to_none, up_to_more, up_to_spent}
use Rattle.report.proofs.summary.put_tasks.Goals as goal

pub loop-task-init : goal.loop-task-init
loop-task-init g c = up_to_none _ _

pub loop-task-preserved : goal.loop-task-preserved
loop-task-preserved g c =
    let line : Reaches g.S.Sink.took 84 (task_line c.loop-task.task (get_or c.args.summaries.now c.loop-task.task no_summary)) c.loop-task.sink c.put_line.new.sink =
    rw c.task_words.ensures at c.put_line.ensures in
    up_to_more c.loop-task.invariant line
    (at_drop_more (λ (z : List Summary). task_lines c.loop-task.task z) c.args.summaries.now c.loop-task.task no_summary (omega arith)) (omega arith)

pub returns-then-is_spent : goal.returns-then-is_spent
returns-then-is_spent g c = up_to_spent c.loop-task.invariant (c.if-is_spent.ensures refl) (omega arith)
