use Rattle.cycle.proofs.Found.{found_soon}
use Rattle.cycle.proofs.found_soon.Goals as goal

pub returns : goal.returns
returns g c = found_soon _
