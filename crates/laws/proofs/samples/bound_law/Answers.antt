use Rattle.laws.proofs.Deciding.{bound}
use Rattle.laws.proofs.Plans.{admitted_plan}
use Rattle.laws.proofs.samples.bound_law.Goals as goal

pub returns : goal.returns
returns c rule profile = bound _ (admitted_plan c.args.plan.now rule profile)
