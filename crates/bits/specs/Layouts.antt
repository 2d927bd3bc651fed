-- What a run of fields holds, whatever their widths. Assumes nothing.
--     total ws               the sum of the widths ws: how many bits their fields take together
--     fields_at bs at ws     the numbers that fields of these widths spell, one behind another from `at` on
--     Bytes bs               each number of bs is a byte
use Rattle.std.specs.Prelude.{ℕ, ◌+◌, ◌<◌, List, [], ◌∷◌, All}
use Rattle.bits.specs.Bits.{spelled}

-- The fields of a layout lie side by side.
abbrev pub total : List ℕ → ℕ
total [] = 0
total (w ∷ ws) = w + total ws

-- Each field begins where the one before it ends.
abbrev pub fields_at : List ℕ → ℕ → List ℕ → List ℕ
fields_at bs at [] = []
fields_at bs at (w ∷ ws) = spelled bs at w ∷ fields_at bs (at + w) ws

-- Eight bits hold the numbers below 256.
abbrev pub Bytes : List ℕ → Type 0
Bytes bs = All (λ b. b < 256) bs
