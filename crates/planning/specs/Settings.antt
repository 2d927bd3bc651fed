-- Which schedule an order asks for. Assumes nothing.
--     policy_rule d content        the rule of the policy that the first letter names
--     layered p rule               that rule as it is, or under the non-preemptive layer, which the second letter says
--     rule_of order content        the rule of an order
--     profile_by k content         the profile of the delay model that the third letter names
--     profile_of order content     the profile of an order
--     common_period tasks n        n is a common multiple of the periods, and not 0
--     hyperperiod_of tasks         the least common multiple of the periods
--     setting_for order content    what the schedule depends on, of a plan with this content under an order
use Rattle.std.specs.Prelude.{ℕ, ◌+◌, Bool, ◌&&◌, List, nat_lt}
use Rattle.std.specs.Option.{unwrap_or}
use Rattle.delay.specs.Models as models
use Rattle.delay.specs.Profiles.{Profile}
use Rattle.dispatch.specs.Policies.{earliest_deadline, fixed_priority, priority_table}
use Rattle.dispatch.specs.Rules.{Rule, first_such, keeping}
use Rattle.order.specs.declared.Order.{Order}
use Rattle.order.specs.declared.letters.DelayKind.{DelayKind}
use Rattle.order.specs.declared.letters.DelayKind.TheVariants.{NoDelay, FixedDelay, UsefulBlocks, LoadedBlocks}
use Rattle.order.specs.declared.letters.Dispatch.{Dispatch}
use Rattle.order.specs.declared.letters.Dispatch.TheVariants.{FixedPriority, EarliestDeadline}
use Rattle.order.specs.declared.letters.Preemption.{Preemption}
use Rattle.order.specs.declared.letters.Preemption.TheVariants.{Preemptive, NonPreemptive}
use Rattle.plan.specs.Admission.{Content}
use Rattle.plan.specs.Periods.{common, hyperperiod_limit}
use Rattle.plan.specs.Tasks.{periods}
use Rattle.plan.specs.declared.tasks.Task.{Task}
use Rattle.schedule.specs.States.{Setting}

-- Fixed priority goes by the priorities of the plan.
abbrev pub policy_rule : Dispatch → Content → Rule
policy_rule FixedPriority content = fixed_priority (priority_table content.tasks)
policy_rule EarliestDeadline content = earliest_deadline

-- The layer lies over either policy.
abbrev pub layered : Preemption → Rule → Rule
layered Preemptive rule = rule
layered NonPreemptive rule = keeping rule

-- By the first two letters.
abbrev pub rule_of : Order → Content → Rule
rule_of order content = layered order.preemption (policy_rule order.dispatch content)

-- Each with the figures of the plan.
abbrev pub profile_by : DelayKind → Content → Profile
profile_by NoDelay content = models.no_delay
profile_by FixedDelay content = models.fixed_delay content
profile_by UsefulBlocks content = models.useful_blocks content
profile_by LoadedBlocks content = models.loaded_blocks content

-- By the third letter.
abbrev pub profile_of : Order → Content → Profile
profile_of order content = profile_by order.delay content

-- 0 is a multiple of every number.
abbrev pub common_period : List Task → ℕ → Bool
common_period tasks n = nat_lt 0 n && common n (periods tasks)

-- The first one up to the limit. Every admitted plan has one; where there is none, it is 0.
abbrev pub hyperperiod_of : List Task → ℕ
hyperperiod_of tasks = unwrap_or (first_such (hyperperiod_limit + 1) (common_period tasks)) 0

-- Nothing else in an input has a say in the schedule.
abbrev pub setting_for : Order → Content → Setting
setting_for order content = record { tasks = content.tasks; rule = rule_of order content; profile = profile_of order content; hyperperiod = hyperperiod_of content.tasks }
