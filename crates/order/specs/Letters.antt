-- What the letters of the order line stand for. Assumes nothing.
--     dispatch_by letter       the policy that a first letter names, None for a letter that names none
--     preemption_by letter     whether the running job may be interrupted, which a second letter says
--     delay_by letter          the delay model that a third letter names
--     line_end_by letter       that a fourth letter is a newline
use Rattle.std.specs.Prelude.{ℕ, cond, Some, None, Option, ◌==◌}
use Prim.Native.Char.{code}
use Rattle.order.specs.declared.letters.Dispatch.{Dispatch}
use Rattle.order.specs.declared.letters.Dispatch.TheVariants.{FixedPriority, EarliestDeadline}
use Rattle.order.specs.declared.letters.Preemption.{Preemption}
use Rattle.order.specs.declared.letters.Preemption.TheVariants.{Preemptive, NonPreemptive}
use Rattle.order.specs.declared.letters.DelayKind.{DelayKind}
use Rattle.order.specs.declared.letters.DelayKind.TheVariants.{NoDelay, FixedDelay, UsefulBlocks, LoadedBlocks}
use Rattle.order.specs.declared.letters.LineEnd.{LineEnd}

-- F is fixed priority, E the earliest deadline.
abbrev pub dispatch_by : ℕ → Option Dispatch
dispatch_by letter = cond (letter == code "F") (Some FixedPriority) (cond (letter == code "E") (Some EarliestDeadline) None)

-- With - the policy is consulted at every tick, and with N the running job keeps the processor until it is finished.
abbrev pub preemption_by : ℕ → Option Preemption
preemption_by letter = cond (letter == code "-") (Some Preemptive) (cond (letter == code "N") (Some NonPreemptive) None)

-- Z is no delay, A a fixed delay, U the useful cache blocks to load again, L no more of them than the job has loaded.
abbrev pub delay_by : ℕ → Option DelayKind
delay_by letter =
    cond (letter == code "Z") (Some NoDelay)
    (cond (letter == code "A") (Some FixedDelay) (cond (letter == code "U") (Some UsefulBlocks) (cond (letter == code "L") (Some LoadedBlocks) None)))

-- The newline is the byte 10.
abbrev pub line_end_by : ℕ → Option LineEnd
line_end_by letter = cond (letter == 10) (Some (record {})) None
