use Rattle.std.proofs.Common.{◌≡◌, length, take}
use Rattle.plan.specs.Rows.{RowsAdmitted}
use Rattle.plan.proofs.rows.read_rows.Given as goal

abbrev pub invariant-loop-row : goal.invariant-loop-row
invariant-loop-row l =
    (length l.tasks ≡ 16)
    × RowsAdmitted l.body l.row (take l.row l.tasks) l.greatest_offset l.hyperperiod.ticks
