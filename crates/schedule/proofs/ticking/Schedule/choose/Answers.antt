use Rattle.std.proofs.Common.{◌<◌, ℕ, [], List, length, take, IfSome, ap, ◌∙◌, subst}
use Rattle.std.proofs.lemmas.List.FromFn.{length-map-range_with_len}
use Rattle.dispatch.specs.declared.candidates.Candidate.{Candidate}
use Rattle.plan.specs.Plans.{tasks_in}
use Rattle.schedule.proofs.Ahead.{rows_shown}
use Rattle.schedule.proofs.Choices.{named_known}
use Rattle.schedule.proofs.JobRows.{rows_enough}
use Rattle.schedule.proofs.ticking.Schedule.choose.Goals as goal
use Rattle.schedule.specs.Tables.{clock_of, moment_of, next_in, tasks_of, timed}
use Rattle.schedule.specs.Ticks.{candidates}

pub returns-clause-value : goal.returns-clause-value
returns-clause-value g c =
    let self = c.args.self.now in
    let plan = self.calendar.plan in
    let shown = rows_shown self.calendar.clock (tasks_in plan) (next_in self.calendar) self.jobs.rows (rows_enough plan self.jobs) self.ahead in
    let shown_rows = c.rows.ensures ∙ ap (λ (n : ℕ). take n self.jobs.rows) (ap length c.tasks-count.ensures.value) ∙ shown in
    let rule = g.P.Policy.rule c.args.policy.now in
    c.choose.ensures ∙ ap (λ (rows : List Candidate). rule rows c.running.result) shown_rows ∙ ap (rule (candidates (timed (tasks_of self)) (clock_of self) (moment_of self []))) c.running.ensures

pub returns-clause-known : goal.returns-clause-known
returns-clause-known g c =
    let self = c.args.self.now in
    let rule = g.P.Policy.rule c.args.policy.now in
    let rows = candidates (timed (tasks_of self)) (clock_of self) (moment_of self []) in
    let known = named_known rule (g.met.P.Policy.lawful c.args.policy.now) rows self.jobs.running c.choose.result (returns-clause-value g c) in
    subst (λ (n : ℕ). IfSome c.choose.result (λ j. j < n)) (length-map-range_with_len _ 0 _) known
