-- What an order line asks for. Assumes nothing.
--     letter_at input place    the letter at a place of the input, None where the input has ended
--     unknown_letter bit       the refusal of the letter that begins at that bit
--     setting_of by bit letter what a letter names, or the refusal of the letter that begins at that bit
--     dispatch_of letter       the policy that the first letter names
--     preemption_of letter     whether the running job may be interrupted, which the second letter says
--     delay_of letter          the delay model that the third letter names
--     line_end_of letter       that the fourth letter is a newline
--     then first rest          go on with what the first answers, or hand its refusal up
--     order_of input           the order that the input begins with, or the refusal of its first wrong letter
use Rattle.std.specs.Prelude.{ℕ, List, Some, None, Ok, Err, Option, Result, ok_or, option_and_then, slice_get}
use Rattle.fault.specs.declared.Fault.{Fault}
use Rattle.fault.specs.declared.Layer as layers
use Rattle.fault.specs.declared.Cause.TheVariants.{UnknownLetter}
use Rattle.order.specs.declared.letters.Dispatch.{Dispatch}
use Rattle.order.specs.declared.letters.Preemption.{Preemption}
use Rattle.order.specs.declared.letters.DelayKind.{DelayKind}
use Rattle.order.specs.declared.letters.LineEnd.{LineEnd}
use Rattle.order.specs.declared.Order.{Order}
use Rattle.order.specs.Letters.{dispatch_by, preemption_by, delay_by, line_end_by}

-- A letter is one byte, and its place counts bytes from 0.
abbrev pub letter_at : List ℕ → ℕ → Option ℕ
letter_at input place = slice_get input place

-- The refusal of a letter names the bit at which it begins, and no row.
abbrev pub unknown_letter : ℕ → Fault
unknown_letter bit = record { layer = layers.TheVariants.Order; cause = UnknownLetter; row = None; bit = Some bit }

-- A missing letter is refused as one that names nothing.
abbrev pub setting_of : {A : Type 0} → (ℕ → Option A) → ℕ → Option ℕ → Result A Fault
setting_of by bit letter = ok_or (option_and_then by letter) (unknown_letter bit)

abbrev pub dispatch_of : Option ℕ → Result Dispatch Fault
dispatch_of letter = setting_of dispatch_by 0 letter

abbrev pub preemption_of : Option ℕ → Result Preemption Fault
preemption_of letter = setting_of preemption_by 8 letter

abbrev pub delay_of : Option ℕ → Result DelayKind Fault
delay_of letter = setting_of delay_by 16 letter

abbrev pub line_end_of : Option ℕ → Result LineEnd Fault
line_end_of letter = setting_of line_end_by 24 letter

-- One letter after another: the first refusal is the answer.
abbrev pub then : {A B : Type 0} → Result A Fault → (A → Result B Fault) → Result B Fault
then (Ok a) rest = rest a
then (Err fault) rest = Err fault

-- The order of an input: its first four letters, each judged in its turn.
abbrev pub order_of : List ℕ → Result Order Fault
order_of input =
    then (dispatch_of (letter_at input 0))
    (λ d. then (preemption_of (letter_at input 1))
    (λ p. then (delay_of (letter_at input 2))
    (λ k. then (line_end_of (letter_at input 3))
    (λ _. Ok (record { dispatch = d; preemption = p; delay = k })))))
