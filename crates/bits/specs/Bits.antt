-- What numbers the bits of a byte string spell. Assumes nothing.
--     bit bs i              the i-th bit of the bytes bs, counted from the most significant bit of the first byte
--     spelled bs at w       the number that the w bits from `at` on spell, the first of them the greatest
use Rattle.std.specs.Prelude.{ℕ, zero, suc, ◌+◌, ◌-◌, ◌*◌, ◌/◌, ◌%◌, ◌^◌, List, slice_index}

-- Each byte holds eight bits, its most significant bit first.
unfoldable pub bit : List ℕ → ℕ → ℕ
bit bs i = (slice_index bs (i / 8) / 2 ^ (7 - i % 8)) % 2

-- A further bit doubles what the bits before it spell, and adds itself.
unfoldable pub spelled : List ℕ → ℕ → ℕ → ℕ
spelled bs at zero = 0
spelled bs at (suc w) = 2 * spelled bs at w + bit bs (at + w)
