-- What a run shows. Assumes nothing.
--     setting_in r          the schedule that r follows, by what it depends on
--     Shown                 the clock, the standing and a summary a task
--     shown r               those of r
--     summaries_in s        the summaries in s
--     opening c             what a new run that follows the schedule of c shows
--     shown_at c t          what it shows at clock t
use Rattle.std.specs.Prelude.{ℕ, List, length, replicate, take}
use Rattle.delay.specs.declared.model.DelayModel as models
use Rattle.dispatch.specs.declared.policy.Policy as policies
use Rattle.run.specs.Followers.{clock_in, followed}
use Rattle.run.specs.declared.runs.Run.{Run}
use Rattle.run.specs.declared.task_summaries.TaskSummaries.{TaskSummaries}
use Rattle.schedule.specs.Rows.{no_summary}
use Rattle.schedule.specs.Schedules.{summaries}
use Rattle.schedule.specs.States.{Setting}
use Rattle.schedule.specs.declared.summaries.Summary.{Summary}
use Rattle.standing.specs.Standings.{standing_at}
use Rattle.standing.specs.declared.standings.Standing.{Standing}
use Rattle.standing.specs.declared.standings.Standing.TheVariants.{Open}

-- Its plan, under the rule of its policy and the profile of its delay model. No call changes it.
abbrev pub setting_in : {P M : Type 0} {p : policies.Ghosts P} {m : models.Ghosts M} → Run P M p m → Setting
setting_in r = followed r.follower

-- What the queries tell.
pub record Shown : Type 0 where
  pub clock : ℕ
  pub standing : Standing
  pub summaries : List Summary

abbrev pub shown : {P M : Type 0} {p : policies.Ghosts P} {m : models.Ghosts M} → Run P M p m → Shown
shown r = record {
  clock = clock_in r.follower;
  standing = r.standing;
  summaries = summaries (setting_in r) (clock_in r.follower);
}

-- One a task, in the order of the plan.
abbrev pub summaries_in : TaskSummaries → List Summary
summaries_in s = take s.count s.rows

-- Nothing is decided, and nothing has happened to any task.
abbrev pub opening : Setting → Shown
opening c = record { clock = 0; standing = Open; summaries = replicate (length c.tasks) no_summary }

-- Of the schedule itself, when the instants up to t have been examined.
abbrev pub shown_at : Setting → ℕ → Shown
shown_at c t = record { clock = t; standing = standing_at c t; summaries = summaries c t }
