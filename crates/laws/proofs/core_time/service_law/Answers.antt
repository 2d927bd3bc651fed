use Rattle.laws.proofs.Plans.{admitted_plan}
use Rattle.laws.proofs.Served.{service}
use Rattle.laws.proofs.core_time.service_law.Goals as goal

pub returns : goal.returns
returns c rule profile live = service _ (admitted_plan c.args.plan.now rule profile) live
