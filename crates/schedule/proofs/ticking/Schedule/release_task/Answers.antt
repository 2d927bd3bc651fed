use Rattle.std.proofs.Common.{◌≡◌, ◌*◌, ◌<◌, ◌≤◌, ℕ, Bool, true, false, cond, List, length, get_or, Some, None, sym, ap, refl, ◌∙◌, arith}
use Rattle.std.proofs.lemmas.List.{get_or-set_same, length-map, length-take, set-get_or}
use Rattle.plan.specs.Plans.{tasks_in}
use Rattle.dispatch.specs.declared.candidates.Candidate.{Candidate}
use Rattle.schedule.proofs.Ahead.{ahead_entered}
use Rattle.schedule.proofs.Places.{placed_set}
use Rattle.schedule.proofs.ticking.Schedule.release_task.Goals as goal
use Rattle.schedule.specs.JobTables.{slot_in, slots_in, untils_in}
use Rattle.schedule.specs.Jobs.{counted, due, vacant}
use Rattle.schedule.specs.Tables.{next_at, next_in, task_in}
use Rattle.schedule.specs.declared.calendar.next_job.NextJob.{NextJob}

-- where nothing is answered, nothing was due
none_due : {X : Type 0} (b : Bool) (w : X) → None ≡ cond b (Some w) None → b ≡ false
none_due true w e = cc
none_due false w e = refl

pub invariant_of-self-clause-charging : goal.invariant_of-self-clause-charging
invariant_of-self-clause-charging c i =
    let old = c.args.self.now in
    rw (c.enter.ensures.delays, c.count_release.ensures.clock) (placed_set (λ _ n. n ≤ 4096 * old.calendar.clock) 0 old.jobs.delays c.args.task 0 (omega arith) old.charging i)

pub invariant_of-self-clause-ahead : goal.invariant_of-self-clause-ahead
invariant_of-self-clause-ahead c =
    let old = c.args.self.now in
    let plan = old.calendar.plan in
    let ks = tasks_in plan in
    let j = c.args.task in
    let made = c.count_release.ensures in
    let entered = c.enter.ensures in
    let few : j < 16 = omega (arith, c.requires, length-take plan.head.count plan.tasks, plan.sized) in
    let in_next : j < length (next_in old.calendar) = omega (arith, few, length-map old.calendar.jobs (λ (z : NextJob). z.number), old.calendar.sized) in
    let in_slots : j < length (slots_in old.jobs) = omega (arith, few, length-map old.jobs.rows slot_in, old.jobs.sized) in
    let in_untils : j < length (untils_in old.jobs) = omega (arith, few, length-map old.jobs.rows (λ (r : Candidate). r.until), old.jobs.sized) in
    let next = counted old.calendar.clock (task_in old.calendar j) (next_at old.calendar j) in
    let here = ap (λ (l : List ℕ). get_or l j 0) made.next ∙ get_or-set_same (next_in old.calendar) j next 0 in_next in
    let until = rw (made.plan, made.clock, here) at c.until-until.ensures in
    rw (made.plan, made.clock, made.next, entered.slots, entered.untils) (ahead_entered old.calendar.clock ks (next_in old.calendar) (slots_in old.jobs) (untils_in old.jobs) j next _ _ in_next in_slots in_untils until old.ahead)

pub invariant_of-self-in_default-clause-ahead : goal.invariant_of-self-in_default-clause-ahead
invariant_of-self-in_default-clause-ahead c =
    let old = c.args.self.now in
    let made = c.count_release.ensures in
    let no = none_due (due old.calendar.clock (task_in old.calendar c.args.task) (next_at old.calendar c.args.task)) _ (sym c.in_default.is ∙ made.work) in
    let same = made.next ∙ rw no (set-get_or (next_in old.calendar) c.args.task 0) in
    rw (made.plan, made.clock, same) old.ahead

pub returns-in_default-clause-moment : goal.returns-in_default-clause-moment
returns-in_default-clause-moment c =
    let old = c.args.self.now in
    let made = c.count_release.ensures in
    let no = none_due (due old.calendar.clock (task_in old.calendar c.args.task) (next_at old.calendar c.args.task)) _ (sym c.in_default.is ∙ made.work) in
    record {
      slots = rw no (sym (set-get_or (slots_in old.jobs) c.args.task vacant));
      next = made.next;
      delays = rw no (sym (set-get_or old.jobs.delays c.args.task 0));
      marks = refl;
      running = refl;
    }
