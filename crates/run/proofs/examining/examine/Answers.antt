use Rattle.std.proofs.Common.{rules}
use Rattle.run.proofs.examining.examine.Goals as goal
use Rattle.standing.specs.Standings.{examined}

pub returns-clause-event : goal.returns-clause-event
unfolding examined
returns-clause-event g c = Prim.search rules
