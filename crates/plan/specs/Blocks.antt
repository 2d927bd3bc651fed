-- Sets of cache lines, as a plan writes them. Assumes nothing.
--     every_below n p       p holds of every number below n
--     holds s l             line l is in the set s
--     within s t            every line of s is a line of t
use Rattle.std.specs.Prelude.{ℕ, zero, suc, ◌-◌, ◌/◌, ◌%◌, ◌^◌, Bool, true, not, ◌&&◌, ◌||◌, ◌==◌}

-- Of 0, of 1, and so on up to n − 1.
unfoldable pub every_below : ℕ → (ℕ → Bool) → Bool
every_below zero p = true
every_below (suc n) p = every_below n p && p n

-- A set is a number of 64 bits: line 0 is the most significant one, which stands first in a plan, and line 63 the least.
abbrev pub holds : ℕ → ℕ → Bool
holds s l = s / 2 ^ (63 - l) % 2 == 1

-- Of each line: it is not in s, or it is in t.
abbrev pub within : ℕ → ℕ → Bool
within s t = every_below 64 (λ l. not (holds s l) || holds t l)
