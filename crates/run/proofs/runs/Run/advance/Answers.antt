use Rattle.std.proofs.Common.{rules}
use Rattle.run.proofs.runs.Run.advance.Goals as goal
use Rattle.run.specs.Written.{written}

pub returns-in_err-permit-clause-jobs : goal.returns-in_err-permit-clause-jobs
unfolding written
returns-in_err-permit-clause-jobs g c = Prim.search rules

pub returns-in_err-permit-clause-switches : goal.returns-in_err-permit-clause-switches
unfolding written
returns-in_err-permit-clause-switches g c = Prim.search rules
