use Rattle.std.proofs.Common.{◌≡◌, ℕ, [], ◌<◌, ◌≤◌, ltb, false, length, Some, ap, sym, ◌∙◌, subst, ⊎_elim, eq-or-lt_of_le, arith}
use Rattle.std.proofs.lemmas.Bool.{and_from, and_right, lt-ltb}
use Rattle.dispatch.specs.Urgencies.{first_none, first_some}
use Rattle.schedule.proofs.ticking.Schedule.late.Goals as goal
use Rattle.schedule.specs.Jobs.{late_job}
use Rattle.schedule.specs.Schedules.{late_in, late_named}
use Rattle.schedule.specs.JobTables.{slot_at}
use Rattle.schedule.specs.Tables.{clock_of, moment_of, next_at, task_in, tasks_of, timed}

pub loop-task-init : goal.loop-task-init
loop-task-init c i h = absurd (omega (arith, h))

pub loop-task-preserved : goal.loop-task-preserved
loop-task-preserved c i h =
    let it = c.args.self.now in
    ⊎_elim
    (λ same. subst (λ (z : ℕ). late_in (timed (tasks_of it)) (clock_of it) (moment_of it []) z ≡ false) (sym same) (and_right (ltb c.loop-task.task _) _ (sym c.is_late.ensures ∙ c.if-is_late.false)))
    (λ less. c.loop-task.invariant i less)
    (eq-or-lt_of_le (let le : i ≤ c.loop-task.task = omega (arith, h) in le))

pub returns-then-is_late : goal.returns-then-is_late
returns-then-is_late c =
    let it = c.args.self.now in
    let few : c.loop-task.task < length (tasks_of it) = rw c.tasks-count.ensures.value at c.loop-task-test.true in
    let is = and_from (ltb c.loop-task.task (length (tasks_of it))) (late_job it.calendar.clock (task_in it.calendar c.loop-task.task) (next_at it.calendar c.loop-task.task) (slot_at it.jobs c.loop-task.task)) (lt-ltb _ _ few) (sym c.is_late.ensures ∙ c.if-is_late.true) in
    let found = first_some (length (tasks_of it)) c.loop-task.task _ few is c.loop-task.invariant in
    ap (λ (m : ℕ). Some (record { task = c.loop-task.task; job = m })) c.live_job-job.ensures
    ∙ sym (ap (late_named (moment_of it [])) found)

pub returns : goal.returns
returns c =
    let it = c.args.self.now in
    let all : length (tasks_of it) ≤ c.loop-task.task = rw c.tasks-count.ensures.value at c.loop-task-test.false in
    sym (ap (late_named (moment_of it [])) (first_none (length (tasks_of it)) _ (λ i h. c.loop-task.invariant i (omega (arith, h, all)))))

pub returns-then-is_quiet : goal.returns-then-is_quiet
returns-then-is_quiet c =
    let it = c.args.self.now in
    let none = c.is_quiet.ensures.deadlines c.if-is_quiet.true in
    sym
    (ap (late_named (moment_of it []))
    (first_none (length (tasks_of it)) _ (λ i h. and_right (ltb i _) _ (and_right (slot_at it.jobs i).live _ (none i h)))))
