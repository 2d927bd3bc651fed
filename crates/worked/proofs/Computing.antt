-- One name to unfold where a proof computes a schedule.
use Rattle.std.specs.Prelude.{ℕ}
use Rattle.plan.specs.Blocks.{every_below}
use Rattle.delay.specs.Lines.{count_below, set_below}
use Rattle.dispatch.specs.Rules.{first_such, most_urgent}
use Rattle.schedule.specs.Each.{each}
use Rattle.schedule.specs.Rows.{job_row, switch_row}
use Rattle.schedule.specs.Schedules.{moment, row_summaries}
use Rattle.schedule.specs.Ticks.{lost, tick}

unfoldable pub schedules : ℕ
unfolding every_below count_below set_below first_such most_urgent each job_row switch_row moment row_summaries lost tick
schedules = 0
