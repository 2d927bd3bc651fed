use Rattle.std.proofs.Common.{◌≡◌, Some, None, rules}
use Rattle.std.proofs.lemmas.Option.{MatchOption-at_none, MatchOption-at_some}
use Rattle.plan.proofs.FirstWrong.{unless_ok}
use Rattle.plan.proofs.RowLaws.{row_admitted, row_too_long}
use Rattle.plan.proofs.rows.admit_row.Goals as goal

pub returns-in_err-hyperperiod : goal.returns-in_err-hyperperiod
returns-in_err-hyperperiod c =
    let none : c.join.result ≡ None = search rules in
    let refused =
    row_too_long c.args.body.now c.args.row c.in_ok-task.task c.in_ok-task.ensures (unless_ok _ _ _ c.in_ok-keep_rules.ensures).0
    c.args.before.ticks c.requires (MatchOption-at_none _ _ none c.join.ensures) in
    search rules

pub returns : goal.returns
returns c =
    let some : c.join.result ≡ Some c.in_ok-hyperperiod.hyperperiod = search rules in
    row_admitted c.args.body.now c.args.row c.in_ok-task.task c.in_ok-task.ensures (unless_ok _ _ _ c.in_ok-keep_rules.ensures).0
    c.args.before.ticks c.requires c.in_ok-hyperperiod.hyperperiod.ticks
    (MatchOption-at_some _ _ _ some c.join.ensures) c.in_ok-hyperperiod.hyperperiod.limited
