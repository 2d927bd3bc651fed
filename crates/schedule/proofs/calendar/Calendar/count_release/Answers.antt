use Rattle.std.proofs.Common.{◌≡◌, ◌+◌, ◌≤◌, true, Bool, cond, get_or, set, ap, sym, ◌∙◌, arith}
use Rattle.std.proofs.Math.ListN.{get_or-map}
use Rattle.std.proofs.lemmas.Bool.{eqb-true}
use Rattle.std.proofs.lemmas.List.{length-set, map-set}
use Rattle.plan.proofs.TaskTimes.{times_at}
use Rattle.plan.specs.Plans.{tasks_in}
use Rattle.plan.specs.Tasks.{zero_task}
use Rattle.plan.specs.declared.tasks.Task.{Task}
use Rattle.schedule.proofs.Calendars.{one_counted}
use Rattle.schedule.proofs.Places.{placed_set}
use Rattle.schedule.proofs.calendar.Calendar.count_release.Goals as goal
use Rattle.schedule.specs.Calendars.{next_job, no_job}
use Rattle.schedule.specs.Jobs.{due}
use Rattle.schedule.specs.Tables.{next_at, next_in, task_in}
use Rattle.schedule.specs.declared.calendar.next_job.NextJob.{NextJob}

pub invariant_of-self : goal.invariant_of-self
invariant_of-self c =
    let old = c.args.self.now in
    let j = c.args.task in
    let ks = tasks_in old.plan in
    let times = times_at ks j zero_task old.plan.keeping c.requires in
    let is : due old.clock (task_in old j) (next_at old j) ≡ true = cc in
    let kept = ap (λ (z : NextJob). z.release) (old.kept j) in
    let now : old.clock ≡ (get_or old.jobs j no_job).release = (rw (get_or-map (λ (z : NextJob). z.number) old.jobs j no_job) at (eqb-true _ _ is)) ∙ sym kept in
    let period = c.from.ensures ∙ ap (λ (z : Task). z.period) c.task-released.ensures in
    let deadline = c.from-2.ensures ∙ ap (λ (z : Task). z.deadline) c.task-released.ensures in
    record {
      ending = old.ending;
      sized = length-set old.jobs j _ ∙ old.sized;
      kept = placed_set (λ i v. v ≡ next_job (get_or ks i zero_task) v.number) no_job old.jobs j _ (one_counted (get_or ks j zero_task) _ _ _ _ _ period deadline kept now) old.kept;
      awaited = λ i l m. omega arith;
      later = λ i l. omega arith;
      near = placed_set (λ _ v. v.live_deadline ≤ old.clock + 2097152) no_job old.jobs j _ (omega arith) old.near;
    }

pub returns-clause-next : goal.returns-clause-next
returns-clause-next c =
    let old = c.args.self.now in
    let j = c.args.task in
    let is : due old.clock (task_in old j) (next_at old j) ≡ true = cc in
    let number = ap (λ n. n + 1) (sym (get_or-map (λ (z : NextJob). z.number) old.jobs j no_job)) ∙ ap (λ (b : Bool). cond b (next_at old j + 1) (next_at old j)) (sym is) in
    map-set (λ (z : NextJob). z.number) old.jobs j _ ∙ ap (set (next_in old) j) number
