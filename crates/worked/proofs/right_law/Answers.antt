use Rattle.worked.proofs.AllRight.{all_right}
use Rattle.worked.proofs.right_law.Goals as goal

pub returns : goal.returns
returns c = all_right
