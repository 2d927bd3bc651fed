-- What takes a text piece by piece. Assumes nothing.
--     TookAll took before text after      the sink took the text, in some number of pieces
--     Takes took most text before after   it did, and the text has at most `most` bytes
--     Reaches took most text before after   it took the text, and at most `most` bytes make it what it is after that
--     TakenOff room piece left              what is left of a room after the piece, None where it does not fit
--     Measured before piece after         the piece was taken off the room
--     Wrote before piece after            the piece was put at the place of the lent buffer
use Rattle.std.specs.Prelude.{◌≡◌, ℕ, ◌+◌, ◌<◌, ◌≤◌, List, [], ◌++◌, length, None, Some, Option}
use Rattle.std.specs.Option.{MatchOption}
use Rattle.report.specs.declared.sink.lent.Lent.{Lent}
use Rattle.report.specs.declared.sink.room.Room.{Room}
use Rattle.report.specs.Buffers.{Put}

-- A sink that does nothing took the empty text, and with a further piece the text is longer by that piece.
pub data TookAll {S : Type 0} (took : S → List ℕ → S → Type 0) : S → List ℕ → S → Type 0 where
  nothing : {s : S} → TookAll took s [] s
  further : {s t u : S} {text piece : List ℕ} → TookAll took s text t → took t piece u → TookAll took s (text ++ piece) u

-- The bound tells how much room is enough.
pub record Takes {S : Type 0} (took : S → List ℕ → S → Type 0) (most : ℕ) (text : List ℕ) (before after : S) : Type 0 where
  pub all : TookAll took before text after
  pub short : length text ≤ most

-- A sink that no piece changes any more need not be shown the rest of a text, so the bound is on what makes of it the same: the part
-- that it was shown.
pub record Reaches {S : Type 0} (took : S → List ℕ → S → Type 0) (most : ℕ) (text : List ℕ) (before after : S) : Type 0 where
  pub all : TookAll took before text after
  pub part : List ℕ
  pub enough : Takes took most part before after

-- The length is taken off the room, so that no sum of lengths is ever made. Once something did not fit, nothing does.
abbrev pub TakenOff : Option ℕ → List ℕ → Option ℕ → Type 0
TakenOff None piece after = after ≡ None
TakenOff (Some room) piece after = MatchOption after (room < length piece) (λ left. left + length piece ≡ room)

-- A room takes a piece by growing smaller.
abbrev pub Measured : Room → List ℕ → Room → Type 0
Measured before piece after = TakenOff before.left piece after.left

-- Only a piece that fits is put. The buffer is still the one that was lent.
pub record Wrote (before : Lent) (piece : List ℕ) (after : Lent) : Type 0 where
  pub put : before.at + length piece ≤ length before.out.now → Put before.at piece before.out.now after.out.now after.at
  pub size : length after.out.now ≡ length before.out.now
  pub lender : after.out.ghost_name ≡ before.out.ghost_name
