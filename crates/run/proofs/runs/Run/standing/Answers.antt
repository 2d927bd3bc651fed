use Rattle.run.proofs.Living.{guaranteed}
use Rattle.run.proofs.Truths.{admitted_run}
use Rattle.run.proofs.runs.Run.standing.Goals as goal
use Rattle.run.specs.Runs.{setting_in, shown}

pub returns-clause-guarantee : goal.returns-clause-guarantee
returns-clause-guarantee g c calls life =
    let r = c.args.self.now in
    guaranteed (setting_in r) (admitted_run r) (g.met.P.Policy.lawful r.follower.policy) calls (shown r) life
