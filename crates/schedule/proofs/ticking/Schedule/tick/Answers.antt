use Rattle.std.proofs.Common.{◌≡◌, ◌+◌, ap, ◌∙◌}
use Rattle.schedule.proofs.WholeTicks.{marks_aside, passed_ticked}
use Rattle.schedule.proofs.ticking.Schedule.tick.Goals as goal
use Rattle.schedule.specs.States.{setting_of}
use Rattle.schedule.specs.Tables.{clock_of, moment_of, plan_of}
use Rattle.schedule.specs.Ticks.{chosen, released}

pub returns-clause-outcome : goal.returns-clause-outcome
returns-clause-outcome g c =
    let marks = g.M.DelayModel.marks c.args.model.now in
    let old = c.args.self.now in
    let entered = c.release.new.self in
    let entry = c.release.ensures in
    let rest = c.pass-rows.ensures in
    let setting = setting_of (plan_of old) (g.P.Policy.rule c.args.policy.now) (g.M.DelayModel.profile c.args.model.now) in
    let after : moment_of entered marks ≡ released setting (clock_of old) (moment_of old marks) = marks_aside setting (clock_of old) old entered marks entry.moment in
    let asked : c.choose-choice.result ≡ chosen setting (clock_of old) (moment_of entered marks) = rw (entry.plan, entry.clock) at c.choose-choice.ensures.value in
    let named = asked ∙ ap (chosen setting (clock_of old)) after in
    (rest.clock ∙ ap (λ n. n + 1) entry.clock, passed_ticked setting (clock_of old) (moment_of old marks) _ _ _ named (rw (entry.plan, entry.clock, after) at rest.passed))
