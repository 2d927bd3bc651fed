use Rattle.std.proofs.Common.{◌≡◌, arith}
use Rattle.run.proofs.Following.{either, onward}
use Rattle.run.proofs.follower.Follower.tick.Goals as goal
use Rattle.run.specs.Followers.{clock_in, followed}
use Rattle.schedule.specs.Schedules.{moment}
use Rattle.schedule.specs.Tables.{clock_of, moment_of}

pub invariant_of-self : goal.invariant_of-self
invariant_of-self g c =
    let old = c.args.self.now in
    let after = c.tick.new in
    let same = c.tick.ensures in
    let marks = g.M.DelayModel.marks after.model in
    let stepped : moment_of after.self marks ≡ moment (followed old) (clock_of after.self) =
    either c.tick.result _ same.outcome
    (λ none. absurd (omega (arith, none.0, c.requires)))
    (λ rows did. onward (followed old) (clock_in old) _ _ _ old.following did.1.after did.0)
    in
    record { following = rw (← same.plan, ← same.same) at stepped }
