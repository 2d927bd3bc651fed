use Rattle.cycle.proofs.Compared.{compared_right}
use Rattle.cycle.proofs.compared_right.Goals as goal

pub returns : goal.returns
returns c = compared_right
