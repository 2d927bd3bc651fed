use Rattle.std.proofs.Common.{arith}
use Rattle.plan.proofs.Multiples.{joins_widened, gcd_positive}
use Rattle.plan.proofs.periods.Hyperperiod.lcm.Goals as goal

pub nonzero_div-times : goal.nonzero_div-times
nonzero_div-times c = gcd_positive _ _ _ (omega arith) c.gcd.ensures

pub returns : goal.returns
returns c = joins_widened _ _ _ _ c.args.self.positive (omega arith) c.from-period.ensures c.gcd.ensures
