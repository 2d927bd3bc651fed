use Rattle.std.proofs.Common.{ap, ◌∙◌}
use Rattle.run.proofs.Following.{at_start}
use Rattle.run.proofs.follower.Follower.new.Goals as goal
use Rattle.schedule.specs.Tables.{moment_of}

pub invariant_of-result : goal.invariant_of-result
invariant_of-result g c =
    let made = c.new.ensures in
    record { following = at_start _ _ _ made.clock (ap (moment_of c.new.result) c.finish_all.ensures.zero ∙ made.moment) }
