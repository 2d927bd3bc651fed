-- What a plan writer checks, in the order in which it does. Assumes nothing.
--     whole_bytes n                             how many bytes a plan of n tasks has
--     refusal cause row                         a fault of the writer, which never names a bit
--     begin_checks n reload room                the checks of a begin: the task count, the block reload time, the buffer's length
--     place_checks w t room, period_checks w t  the checks of a row's place and values, and of the common period
--     in_writer i                               how a broken rule of row i is answered
--     row_checks w t room                       the checks of a row: the writer, the task, the buffer's length
--     finish_checks w                           the check of a finish
use Rattle.std.specs.Prelude.{ℕ, ◌+◌, ◌*◌, not, ◌&&◌, List, [], ◌∷◌, ◌++◌, Some, None, Option, nat_le, nat_lt}
use Rattle.fault.specs.declared.Cause.{Cause}
use Rattle.fault.specs.declared.Cause.TheVariants.{BufferTooShort, HyperperiodTooLong, OutsideField, RowCountMismatch}
use Rattle.fault.specs.declared.Fault.{Fault}
use Rattle.fault.specs.declared.Layer.TheVariants.{Writer}
use Rattle.plan.specs.declared.tasks.Task.{Task}
use Rattle.plan.specs.Checks.{Check, check}
use Rattle.plan.specs.Flaws.{rule_checks}
use Rattle.plan.specs.Periods.{common_up_to, hyperperiod_limit}
use Rattle.plan.specs.Tasks.{fits_row}
use Rattle.writer.specs.declared.token.PlanWriter.{PlanWriter}

-- Two bytes of head and 29 for each row.
abbrev pub whole_bytes : ℕ → ℕ
whole_bytes n = 2 + 29 * n

-- Its layer is W throughout.
abbrev pub refusal : Cause → Option ℕ → Fault
refusal cause row = record { layer = Writer; cause = cause; row = row; bit = None }

-- The count is 1 to 16 and the reload time fits its six bits; then the buffer has room for the whole plan.
abbrev pub begin_checks : ℕ → ℕ → ℕ → List (Check Fault)
begin_checks n reload room =
    check (not (nat_le 1 n && nat_le n 16 && nat_lt reload 64)) (refusal OutsideField None)
    ∷ check (nat_lt room (whole_bytes n)) (refusal BufferTooShort None)
    ∷ []

-- A row is left to write, the buffer has room for the whole plan, and each value fits its field.
abbrev pub place_checks : PlanWriter → Task → ℕ → List (Check Fault)
place_checks w t room =
    check (nat_le w.count w.next) (refusal RowCountMismatch (Some w.next))
    ∷ check (nat_lt room (whole_bytes w.count)) (refusal BufferTooShort None)
    ∷ check (not (fits_row t)) (refusal OutsideField (Some w.next))
    ∷ []

-- A rule that the task of row i breaks is named with the row.
abbrev pub in_writer : ℕ → Cause → ℕ → Fault
in_writer i cause first = refusal cause (Some i)

-- The common period of the rows so far with this one is within its limit.
abbrev pub period_checks : PlanWriter → Task → List (Check Fault)
period_checks w t =
    check (not (common_up_to hyperperiod_limit (w.hyperperiod.ticks ∷ t.period ∷ []))) (refusal HyperperiodTooLong (Some w.next))
    ∷ []

-- In the order in which they are made.
abbrev pub row_checks : PlanWriter → Task → ℕ → List (Check Fault)
row_checks w t room = place_checks w t room ++ (rule_checks (in_writer w.next) t ++ period_checks w t)

-- Every row was written.
abbrev pub finish_checks : PlanWriter → List (Check Fault)
finish_checks w = check (nat_lt w.next w.count) (refusal RowCountMismatch (Some w.next)) ∷ []
