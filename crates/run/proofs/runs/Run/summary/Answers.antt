use Rattle.std.proofs.Common.{◌<◌, ◌≤◌, length, sym, ap, ◌∙◌, subst, arith}
use Rattle.std.proofs.lemmas.Bool.{le-ltb}
use Rattle.run.proofs.Truths.{length_shown, summary_shown, worst_shown}
use Rattle.run.proofs.runs.Run.summary.Goals as goal
use Rattle.run.specs.Followers.{clock_in}
use Rattle.run.specs.Runs.{setting_in, shown}
use Rattle.schedule.specs.Responses.{IsWorst}
use Rattle.schedule.specs.Rows.{no_summary}
use Rattle.schedule.specs.declared.summaries.Summary.{Summary}

pub returns-then-task-tasks-clause-value : goal.returns-then-task-tasks-clause-value
returns-then-task-tasks-clause-value g c =
    let self = c.args.self.now in
    let few : c.args.task < length (setting_in self).tasks = omega (arith, c.if-task-tasks.true, ap length c.tasks.ensures) in
    (omega (arith, length_shown self, few), c.summary_of.ensures ∙ sym (summary_shown self c.args.task c.summary_of.result few))

pub returns-then-task-tasks-clause-worst : goal.returns-then-task-tasks-clause-worst
returns-then-task-tasks-clause-worst g c =
    let self = c.args.self.now in
    let few : c.args.task < length (setting_in self).tasks = omega (arith, c.if-task-tasks.true, ap length c.tasks.ensures) in
    let told = summary_shown self c.args.task no_summary few ∙ sym c.summary_of.ensures in
    subst (λ (y : Summary). IsWorst (setting_in self) (clock_in self.follower) c.args.task y.worst) told
    (worst_shown self (g.met.P.Policy.lawful self.follower.policy) c.args.task few)

pub returns-else-task-tasks-clause-value : goal.returns-else-task-tasks-clause-value
returns-else-task-tasks-clause-value g c =
    let self = c.args.self.now in
    let past : length (shown self).summaries ≤ c.args.task = omega (arith, c.if-task-tasks.false, ap length c.tasks.ensures, length_shown self) in
    (c.new.ensures, le-ltb _ _ past)
