-- What a follower of a schedule shows. Assumes nothing.
--     followed f        the schedule that f follows, by what it depends on
--     clock_in f        the instant that f has reached
use Rattle.std.specs.Prelude.{ℕ}
use Rattle.delay.specs.declared.model.DelayModel as models
use Rattle.dispatch.specs.declared.policy.Policy as policies
use Rattle.run.specs.declared.follower.Follower.{Follower}
use Rattle.schedule.specs.States.{Setting, setting_of}
use Rattle.schedule.specs.Tables.{clock_of, plan_of}

-- Its plan, under the rule of its policy and the profile of its delay model. No tick changes it.
abbrev pub followed : {P M : Type 0} {p : policies.Ghosts P} {m : models.Ghosts M} → Follower P M p m → Setting
followed {P} {M} {p} {m} f = setting_of (plan_of f.schedule) (p.rule f.policy) (m.profile f.model)

-- Its releases and its tick are still to come.
abbrev pub clock_in : {P M : Type 0} {p : policies.Ghosts P} {m : models.Ghosts M} → Follower P M p m → ℕ
clock_in f = clock_of f.schedule
