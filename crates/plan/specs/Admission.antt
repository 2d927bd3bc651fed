-- Which byte strings are plans, and what is wrong with the others. Assumes nothing.
--     Content                               what a plan says: the block reload time and the tasks
--     fault layer cause row bit             a fault with these four parts
--     head_checks bs                        the checks of the head, in their order
--     byte_checks b i, period_checks b i    the checks of the bytes of row i of the body b, and of the common period at it
--     in_row i                              how a broken rule of row i is answered
--     row_checks b i                        the checks of row i of the body b, in their order
--     rows_checks b n                       the checks of the first n rows
--     end_checks b n                        the check that nothing follows the n rows of the body b
--     checks bs                             all checks of the bytes bs, in their order
--     content_in bs                         the content that the bits of bs spell
--     unless o x                            x where o is none, otherwise the fault o
--     admission bs                          the content that bs spells, or the fault of the first check that is wrong
use Rattle.std.specs.Prelude.{ℕ, ◌+◌, ◌*◌, not, List, [], ◌∷◌, ◌++◌, length, Some, None, Ok, Err, Option, Result, ◌==◌, nat_lt}
use Rattle.std.specs.List.{range_with_len, flat_map}
use Rattle.fault.specs.declared.Cause.{Cause}
use Rattle.fault.specs.declared.Cause.TheVariants.{EndsEarly, ExtraBytes, UnknownRevision, SpareBitsSet, HyperperiodTooLong}
use Rattle.fault.specs.declared.Fault.{Fault}
use Rattle.fault.specs.declared.Layer.{Layer}
use Rattle.fault.specs.declared.Layer.TheVariants.{Bytes, Plan}
use Rattle.plan.specs.declared.tasks.Task.{Task}
use Rattle.plan.specs.Checks.{Check, check, first_wrong}
use Rattle.plan.specs.Flaws.{rule_checks}
use Rattle.plan.specs.Layout.{revision_of, count_of, reload_of, head_spare_of, body, row_bytes, spare_of, row_of, rows_of, row_bit}
use Rattle.plan.specs.Periods.{common_up_to, hyperperiod_limit}
use Rattle.plan.specs.Tasks.{periods}

-- A plan says nothing else: the two derived figures follow from its tasks.
pub record Content : Type 0 where
  pub reload : ℕ
  pub tasks : List Task

-- A place that is not named is None.
abbrev pub fault : Layer → Cause → Option ℕ → Option ℕ → Fault
fault layer cause row bit = record { layer = layer; cause = cause; row = row; bit = bit }

-- The head is too short, has another revision than 1, or has spare bits set.
abbrev pub head_checks : List ℕ → List (Check Fault)
head_checks bs =
    check (nat_lt (length bs) 2) (fault Bytes EndsEarly None (Some (8 * length bs)))
    ∷ check (not (revision_of bs == 1)) (fault Bytes UnknownRevision None (Some 0))
    ∷ check (not (head_spare_of bs == 0)) (fault Bytes SpareBitsSet None (Some 14))
    ∷ []

-- The row is cut, or has spare bits set.
abbrev pub byte_checks : List ℕ → ℕ → List (Check Fault)
byte_checks b i =
    check (nat_lt (length (row_bytes b i)) 29) (fault Bytes EndsEarly (Some i) (Some (16 + 8 * length b)))
    ∷ check (not (spare_of (row_bytes b i) == 0)) (fault Bytes SpareBitsSet (Some i) (Some (row_bit i 228)))
    ∷ []

-- A rule that the task of row i breaks is named with its field's first bit.
abbrev pub in_row : ℕ → Cause → ℕ → Fault
in_row i cause first = fault Plan cause (Some i) (Some (row_bit i first))

-- The periods of the rows up to this one have no common multiple within the limit.
abbrev pub period_checks : List ℕ → ℕ → List (Check Fault)
period_checks b i =
    check (not (common_up_to hyperperiod_limit (periods (rows_of b (i + 1))))) (fault Plan HyperperiodTooLong (Some i) None)
    ∷ []

-- First the bytes of the row, then the rules of its task, then the common period.
abbrev pub row_checks : List ℕ → ℕ → List (Check Fault)
row_checks b i = byte_checks b i ++ (rule_checks (in_row i) (row_of b i) ++ period_checks b i)

-- One row after another, each with all its checks.
abbrev pub rows_checks : List ℕ → ℕ → List (Check Fault)
rows_checks b n = flat_map (row_checks b) (range_with_len 0 n)

-- Bytes after the last row begin where one row more would.
abbrev pub end_checks : List ℕ → ℕ → List (Check Fault)
end_checks b n = check (nat_lt (29 * n) (length b)) (fault Bytes ExtraBytes None (Some (row_bit n 0))) ∷ []

-- The head, as many rows as it says, and then the end.
abbrev pub checks : List ℕ → List (Check Fault)
checks bs = head_checks bs ++ (rows_checks (body bs) (count_of bs) ++ end_checks (body bs) (count_of bs))

-- What the fields say, whether or not they pass the checks.
abbrev pub content_in : List ℕ → Content
content_in bs = record { reload = reload_of bs; tasks = rows_of (body bs) (count_of bs) }

-- A value is answered only where no fault is.
abbrev pub unless : {X F : Type 0} → Option F → X → Result X F
unless None x = Ok x
unless (Some f) x = Err f

-- Every byte string has just one answer.
abbrev pub admission : List ℕ → Result Content Fault
admission bs = unless (first_wrong (checks bs)) (content_in bs)
