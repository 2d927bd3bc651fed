use Rattle.laws.proofs.Plans.{admitted_plan}
use Rattle.laws.proofs.Repeating.{repetition}
use Rattle.laws.proofs.samples.repetition_law.Goals as goal

pub returns : goal.returns
returns c rule profile = repetition _ (admitted_plan c.args.plan.now rule profile)
