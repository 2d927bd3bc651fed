use Rattle.cycle.proofs.Futures.{equal_futures}
use Rattle.cycle.proofs.equal_futures.Goals as goal

pub returns : goal.returns
returns g c = equal_futures _
