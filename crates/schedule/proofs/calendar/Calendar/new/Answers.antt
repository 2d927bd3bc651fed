use Rattle.std.proofs.Common.{ℕ, replicate, get_or, sym, ap, ◌∙◌, arith}
use Rattle.plan.specs.Plans.{tasks_in}
use Rattle.plan.specs.Tasks.{zero_task}
use Rattle.schedule.proofs.Calendars.{first_near, numbers_zero}
use Rattle.schedule.proofs.calendar.Calendar.new.Goals as goal
use Rattle.schedule.specs.Calendars.{next_job}
use Rattle.schedule.specs.declared.calendar.next_job.NextJob.{NextJob}

pub invariant_of-result-clause-kept : goal.invariant_of-result-clause-kept
invariant_of-result-clause-kept c i =
    let value = c.first_jobs.ensures.value i in
    value ∙ ap (next_job (get_or (tasks_in c.args.plan.now) i zero_task)) (sym (ap (λ (j : NextJob). j.number) value))

pub invariant_of-result-clause-near : goal.invariant_of-result-clause-near
invariant_of-result-clause-near c i =
    let plan = c.args.plan.now in
    omega (arith, ap (λ (j : NextJob). j.live_deadline) (c.first_jobs.ensures.value i), first_near (tasks_in plan) i plan.keeping)

pub returns-clause-next : goal.returns-clause-next
returns-clause-next c =
    let made = c.first_jobs.ensures in
    numbers_zero c.first_jobs.result (λ i. ap (λ (j : NextJob). j.number) (made.value i)) ∙ ap (λ (n : ℕ). replicate n 0) made.size
