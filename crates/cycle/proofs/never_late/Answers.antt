use Rattle.cycle.proofs.Lateness.{never_late}
use Rattle.cycle.proofs.never_late.Goals as goal

pub returns : goal.returns
returns g c = never_late _
