-- What the worked cases put a plan under. Assumes nothing.
--     under c h rule model      the plan c with the hyperperiod h, under a rule and a model of that plan
--     by_priority, by_deadline  the rules of fixed priority and of earliest deadline: F and E in an order
--     non_preemptive rule       the layer over such a rule: N in an order
--     no_delays                 the model without delays: Z in an order
-- The other models are those of the crate `delay`: `fixed_delay`, `useful_blocks` and `loaded_blocks` are A, U and L.
use Rattle.std.specs.Prelude.{ℕ}
use Rattle.delay.specs.Models.{no_delay}
use Rattle.delay.specs.Profiles.{Profile}
use Rattle.dispatch.specs.Policies.{earliest_deadline, fixed_priority, priority_table}
use Rattle.dispatch.specs.Rules.{Rule, keeping}
use Rattle.plan.specs.Admission.{Content}
use Rattle.schedule.specs.States.{Setting}

-- Rule and model are worked out from what the plan says.
abbrev pub under : Content → ℕ → (Content → Rule) → (Content → Profile) → Setting
under c h rule model = record { tasks = c.tasks; rule = rule c; profile = model c; hyperperiod = h }

-- Its priorities are the plan's.
abbrev pub by_priority : Content → Rule
by_priority c = fixed_priority (priority_table c.tasks)

-- The same rule for every plan.
abbrev pub by_deadline : Content → Rule
by_deadline c = earliest_deadline

-- A job that has the core keeps it until it finishes.
abbrev pub non_preemptive : (Content → Rule) → Content → Rule
non_preemptive rule c = keeping (rule c)

-- The same profile for every plan.
abbrev pub no_delays : Content → Profile
no_delays c = no_delay
