use Rattle.std.proofs.lemmas.Result.{MatchResult-weaker}
use Rattle.plan.proofs.FirstWrong.{unless_ok}
use Rattle.writer.proofs.Checking.{period_refuses, row_checked}
use Rattle.writer.proofs.token.PlanWriter.check_row.Goals as goal

pub returns : goal.returns
returns c =
    let placed = (unless_ok _ _ _ c.in_ok-check_place.ensures).0 in
    let kept = (unless_ok _ _ _ c.in_ok-keep_rules.ensures).0 in
    MatchResult-weaker c.join_period.result c.join_period.ensures
    (λ h joins. row_checked c.args.self.now c.args.task c.args.room placed h.ticks kept joins h.limited)
    (λ e refused. period_refuses c.args.self.now c.args.task c.args.room placed e kept refused)
