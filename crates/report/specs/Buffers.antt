-- What the functions that write into a lent buffer cite. Assumes nothing.
--     Put at text before after end            the text was put at a place of the buffer, and nothing else was touched
--     buffer_too_short                        the refusal of a buffer that has no room for the whole text
--     Whole text before after n               the text stands at the front of the buffer, and n is its length
--     Untouched most text before after e      the text does not fit, and the buffer is as it was
--     Written most text before after r        the one or the other: all of the text is written, or nothing
use Rattle.std.specs.Prelude.{◌≡◌, ℕ, ◌+◌, ◌<◌, ◌≤◌, List, ◌++◌, length, take, drop, None, Result}
use Rattle.std.specs.Result as results
use Rattle.fault.specs.declared.Fault.{Fault}
use Rattle.fault.specs.declared.Layer.TheVariants.{Run}
use Rattle.fault.specs.declared.Cause.TheVariants.{BufferTooShort}

-- The buffer held `before` and holds `after`: up to `at` it is as it was, then the text stands, and from `end` on it is as it was.
pub record Put (at : ℕ) (text before after : List ℕ) (end : ℕ) : Type 0 where
  pub place : end ≡ at + length text
  pub front : take end after ≡ take at before ++ text
  pub rest : drop end after ≡ drop end before

-- The refusal names no row and no bit.
abbrev pub buffer_too_short : Fault
buffer_too_short = record { layer = Run; cause = BufferTooShort; row = None; bit = None }

-- The first n bytes of the buffer are the text, and the others are as they were.
pub record Whole (text before after : List ℕ) (n : ℕ) : Type 0 where
  pub count : n ≡ length text
  pub fits : n ≤ length before
  pub front : take n after ≡ text
  pub rest : drop n after ≡ drop n before

-- Only a buffer that is shorter than the text is refused, so none of `most` bytes, and it is not written to.
pub record Untouched (most : ℕ) (text before after : List ℕ) (e : Fault) : Type 0 where
  pub cause : e ≡ buffer_too_short
  pub short : length before < length text
  pub small : length before < most
  pub same : after ≡ before

-- What a public writer does to the buffer that it was lent, by its answer.
abbrev pub Written : ℕ → List ℕ → List ℕ → List ℕ → Result ℕ Fault → Type 0
Written most text before after r = results.MatchResult r (λ n. Whole text before after n) (λ e. Untouched most text before after e)
