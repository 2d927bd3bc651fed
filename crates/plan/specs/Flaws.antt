-- The rules that a task can break by itself, in the order in which they are checked. Assumes nothing.
--     rule_checks at t      the checks of the task t, where `at` answers for a rule and the first bit in a row of its field
--     flaw_at cause first   that answer by itself
use Rattle.std.specs.Prelude.{ℕ, List, [], ◌∷◌}
use Rattle.fault.specs.declared.Cause.{Cause}
use Rattle.fault.specs.declared.Cause.TheVariants.{ZeroPeriod, TimesOutOfOrder, UsefulNotEvicting}
use Rattle.plan.specs.declared.tasks.Flaw.{Flaw}
use Rattle.plan.specs.declared.tasks.Task.{Task}
use Rattle.plan.specs.Checks.{Check, check}
use Rattle.plan.specs.Tasks.{zero_period, times_out_of_order, useful_not_evicting}

-- The period first, then the order of the times, then the cache blocks.
abbrev pub rule_checks : {F : Type 0} → (Cause → ℕ → F) → Task → List (Check F)
rule_checks at t =
    check (zero_period t) (at ZeroPeriod 20)
    ∷ check (times_out_of_order t) (at TimesOutOfOrder 60)
    ∷ check (useful_not_evicting t) (at UsefulNotEvicting 100)
    ∷ []

-- What a task is told to break, before anybody knows its row.
abbrev pub flaw_at : Cause → ℕ → Flaw
flaw_at cause first = record { cause = cause; first = first }
