-- How a refusal is written down. Assumes nothing.
--     letter_of l      the byte that stands for the layer l in a report
--     number_of c      the number that stands for the cause c in a report
use Rattle.std.specs.Prelude.{ℕ}
use Rattle.fault.specs.declared.Layer.{Layer}
use Rattle.fault.specs.declared.Layer.TheVariants.{Order, Bytes, Plan, Writer, Run}
use Rattle.fault.specs.declared.Cause.{Cause}
use Rattle.fault.specs.declared.Cause.TheVariants.{EndsEarly, ExtraBytes, UnknownRevision, SpareBitsSet, ZeroPeriod, TimesOutOfOrder, UsefulNotEvicting, HyperperiodTooLong, AdvanceTooLong, RunClosed, PastLastInstant, BufferTooShort, OutsideField, RowCountMismatch, NoSuchEntry, UnknownLetter}

-- O for the order line, B for the plan's bytes, P for the plan, W for the plan writer, R for the run and its report
abbrev pub letter_of : Layer → ℕ
letter_of Order = 79
letter_of Bytes = 66
letter_of Plan = 80
letter_of Writer = 87
letter_of Run = 82

-- As in the table of refusals.
abbrev pub number_of : Cause → ℕ
number_of EndsEarly = 1
number_of ExtraBytes = 2
number_of UnknownRevision = 3
number_of SpareBitsSet = 4
number_of ZeroPeriod = 5
number_of TimesOutOfOrder = 6
number_of UsefulNotEvicting = 7
number_of HyperperiodTooLong = 8
number_of AdvanceTooLong = 9
number_of RunClosed = 10
number_of PastLastInstant = 11
number_of BufferTooShort = 12
number_of OutsideField = 13
number_of RowCountMismatch = 14
number_of NoSuchEntry = 15
number_of UnknownLetter = 16
