use Rattle.std.proofs.Common.{◌≡◌, ℕ, [], length, refl, ap, ◌∙◌, subst, arith}
use Rattle.schedule.proofs.Releases.{ReleasedTo, released_all, released_more, released_none}
use Rattle.schedule.proofs.ticking.Schedule.release_each.Goals as goal
use Rattle.schedule.specs.Tables.{moment_of, tasks_of, timed}

pub loop-task-init : goal.loop-task-init
loop-task-init c = record { plan = refl; clock = refl; released = released_none _ _ _ }

pub loop-task-preserved : goal.loop-task-preserved
loop-task-preserved c =
    let kept = c.loop-task.invariant in
    let made = c.release_task.ensures in
    let one = rw (kept.plan, kept.clock) at made.moment in
    record { plan = made.plan ∙ kept.plan; clock = made.clock ∙ kept.clock; released = released_more _ _ _ _ _ _ kept.released one }

pub returns-clause-moment : goal.returns-clause-moment
returns-clause-moment c =
    let old = c.args.self.now in
    let kept = c.loop-task.invariant in
    let all : c.loop-task.task ≡ length (tasks_of old) = omega (arith, ap length c.tasks-count.ensures.value) in
    let done = subst (λ (n : ℕ). ReleasedTo (timed (tasks_of old)) old.calendar.clock n (moment_of old []) (moment_of c.loop-task.self [])) all kept.released in
    released_all (timed (tasks_of old)) _ _ _ done
