use Rattle.std.proofs.Common.{◌*◌, length, ap, ◌∙◌, arith}
use Rattle.plan.specs.Plans.{tasks_in}
use Rattle.schedule.proofs.Ahead.{Ahead, ahead_served, ahead_stepped}
use Rattle.schedule.proofs.JobRows.{untils_enough}
use Rattle.schedule.proofs.Owing.{charged_small, served_owing}
use Rattle.schedule.proofs.ticking.Schedule.serve.Goals as goal
use Rattle.schedule.specs.JobTables.{delays_in, slots_in, untils_in}
use Rattle.schedule.specs.States.{State}
use Rattle.schedule.specs.Tables.{next_in, state_of, unruled}

pub invariant_of-self : goal.invariant_of-self
invariant_of-self g c =
    let old = c.args.self.now in
    let s = unruled c.tasks.result.now (g.M.DelayModel.profile c.args.model.now) in
    let small = g.met.M.DelayModel.bounded c.args.model.now in
    let x = state_of old.jobs (g.M.DelayModel.marks c.args.model.now) in
    let made = c.serve-served.ensures in
    let after = c.serve-served.new.self in
    let b = 4096 * old.calendar.clock in
    let step = c.step.ensures in
    let plan = old.calendar.plan in
    let ks = tasks_in plan in
    let served : Ahead old.calendar.clock ks (next_in old.calendar) (slots_in after) (untils_in after) =
    rw (ap (λ (z : State). z.slots) made.state, made.untils) (ahead_served s c.args.task old.calendar.clock ks (next_in old.calendar) x (untils_in old.jobs) old.ahead)
    in
    let count = ap length (c.tasks-2.ensures.value ∙ ap tasks_in step.plan) in
    record {
      owing = λ i. rw c.step-2.ensures.slots (omega (arith, step.clock, served_owing s small b c.args.task x (state_of after (g.M.DelayModel.marks c.serve-served.new.model)) made.state old.owing i));
      charging = λ i. rw c.step-2.ensures.delays (omega (arith, step.clock, charged_small s small b c.args.task (delays_in old.jobs) _ x made.delays old.charging i));
      ahead = rw (step.clock, step.next, step.plan, c.step-2.ensures.slots, c.step-2.ensures.untils, count) (ahead_stepped old.calendar.clock ks (next_in old.calendar) (slots_in after) (untils_in after) (untils_enough plan after) served);
    }
