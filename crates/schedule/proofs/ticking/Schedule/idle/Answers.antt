use Rattle.std.proofs.Common.{length, ap, ◌∙◌, arith}
use Rattle.plan.specs.Plans.{tasks_in}
use Rattle.schedule.proofs.Ahead.{ahead_stepped}
use Rattle.schedule.proofs.JobRows.{untils_enough}
use Rattle.schedule.proofs.ticking.Schedule.idle.Goals as goal
use Rattle.schedule.specs.JobTables.{slots_in, untils_in}
use Rattle.schedule.specs.Tables.{next_in}

pub invariant_of-self-clause-charging : goal.invariant_of-self-clause-charging
invariant_of-self-clause-charging c i = rw (c.step-2.ensures.delays, c.idle.ensures.delays) (omega (arith, c.step.ensures.clock, c.args.self.now.charging i))

pub invariant_of-self-clause-ahead : goal.invariant_of-self-clause-ahead
invariant_of-self-clause-ahead c =
    let old = c.args.self.now in
    let plan = old.calendar.plan in
    let ks = tasks_in plan in
    let step = c.step.ensures in
    let count = ap length (c.tasks.ensures.value ∙ ap tasks_in step.plan) in
    rw (step.clock, step.next, step.plan, c.step-2.ensures.slots, c.step-2.ensures.untils, c.idle.ensures.slots, c.idle.ensures.untils, count) (ahead_stepped old.calendar.clock ks (next_in old.calendar) (slots_in old.jobs) (untils_in old.jobs) (untils_enough plan old.jobs) old.ahead)
