use Rattle.std.proofs.Common.{◌≡◌, ℕ, ◌<◌, length, take, refl, subst, arith, rules}
use Rattle.std.proofs.lemmas.List.{take_more_set}
use Rattle.plan.specs.Rows.{RowsAdmitted}
use Rattle.plan.proofs.RowsLaws.{rows_none, rows_more, row_stops}
use Rattle.plan.proofs.rows.read_rows.Goals as goal

pub loop-row-init : goal.loop-row-init
loop-row-init c = (refl, rows_none _ _ c.of_none-hyperperiod.ensures)

pub returns-in_err-task : goal.returns-in_err-task
returns-in_err-task c =
    let stopped = row_stops c.args.body.now c.loop-row.row c.args.head.count c.in_err-task.field-0.0 (omega arith) c.loop-row.invariant.1.passed c.in_err-task.ensures in
    search rules

pub loop-row-preserved : goal.loop-row-preserved
loop-row-preserved c =
    let within : c.loop-row.row < length c.loop-row.tasks = omega arith in
    let longer = take_more_set c.loop-row.tasks c.loop-row.row c.in_ok-task.task within in
    (search rules, rw c.from.ensures (rows_more _ _ _ _ _ _ _ _ _ c.loop-row.invariant.1 c.in_ok-task.ensures longer c.max-greatest_offset.ensures))

pub returns : goal.returns
returns c =
    let all : c.loop-row.row ≡ c.args.head.count = omega arith in
    let Done : ℕ → Type 0 = λ n. RowsAdmitted c.args.body.now n (take n c.loop-row.tasks) c.loop-row.greatest_offset c.loop-row.hyperperiod.ticks in
    subst Done all c.loop-row.invariant.1
