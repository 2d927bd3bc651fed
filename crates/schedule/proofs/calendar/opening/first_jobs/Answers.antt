use Rattle.std.proofs.Common.{◌≡◌, ℕ, ⊎_elim, get_or, ap, sym, refl, ◌∙◌, arith, rules}
use Rattle.std.proofs.lemmas.Bool.{cases_lt}
use Rattle.std.proofs.lemmas.List.{get_or_past, length-take}
use Rattle.dispatch.proofs.Made.{made_at}
use Rattle.plan.specs.Plans.{tasks_in}
use Rattle.plan.specs.Tasks.{zero_task}
use Rattle.schedule.proofs.calendar.opening.first_jobs.Goals as goal
use Rattle.schedule.specs.Calendars.{next_job, no_job}

pub returns-clause-value : goal.returns-clause-value
returns-clause-value c i =
    let plan = c.args.plan.now in
    let ts = tasks_in plan in
    let made = c.from_fn.ensures.items in
    let first = λ (k : ℕ). next_job (get_or ts k zero_task) 0 in
    ⊎_elim
    (λ l. made_at (λ p. p.0.now ≡ plan) first made refl (λ p q i y s called. search rules) i no_job l)
    (λ l. get_or_past c.from_fn.result i no_job (omega (arith, made.long, l)) ∙ ap (λ k. next_job k 0) (sym (get_or_past ts i zero_task (omega (arith, l, length-take plan.head.count plan.tasks, plan.sized)))))
    (cases_lt i 16)
