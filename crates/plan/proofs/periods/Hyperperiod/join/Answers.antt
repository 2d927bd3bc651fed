use Rattle.std.proofs.Common.{ℕ, [], ◌∷◌, ap, ◌∙◌}
use Rattle.plan.specs.Periods.{common_up_to, hyperperiod_limit}
use Rattle.plan.proofs.Commons.{common_missing, lcm_pair, zero_joins_none}
use Rattle.plan.proofs.periods.Hyperperiod.join.Goals as goal

pub returns-then-period-eq0 : goal.returns-then-period-eq0
returns-then-period-eq0 c =
    ap (λ (z : ℕ). common_up_to hyperperiod_limit (c.args.self.ticks ∷ z ∷ [])) c.if-period-eq0.true ∙ zero_joins_none hyperperiod_limit c.args.self.ticks

pub returns-then-ticks-gt-LIMIT : goal.returns-then-ticks-gt-LIMIT
returns-then-ticks-gt-LIMIT c =
    common_missing hyperperiod_limit _ _ c.if-ticks-gt-LIMIT.true (lcm_pair _ _ _ c.lcm-ticks.ensures)
