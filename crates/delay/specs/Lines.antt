-- Sets of cache lines: what is left of one, and how many lines are in it. Assumes nothing.
--     set_below n p         the lines below n of which p holds, as a number of n bits
--     count_below n p       how many lines below n there are of which p holds
--     without s t           the lines of s that are not in t
--     count_lines s         how many lines s has
--     missing s t           how many lines of s are not in t
use Rattle.std.specs.Prelude.{ℕ, zero, suc, ◌+◌, ◌*◌, Bool, cond, not, ◌&&◌}
use Rattle.plan.specs.Blocks.{holds}

-- Line 0 is the most significant bit, so each further line stands below those before it.
unfoldable pub set_below : ℕ → (ℕ → Bool) → ℕ
set_below zero p = 0
set_below (suc n) p = set_below n p * 2 + cond (p n) 1 0

unfoldable pub count_below : ℕ → (ℕ → Bool) → ℕ
count_below zero p = 0
count_below (suc n) p = count_below n p + cond (p n) 1 0

abbrev pub without : ℕ → ℕ → ℕ
without s t = set_below 64 (λ l. holds s l && not (holds t l))

abbrev pub count_lines : ℕ → ℕ
count_lines s = count_below 64 (λ l. holds s l)

abbrev pub missing : ℕ → ℕ → ℕ
missing s t = count_below 64 (λ l. holds s l && not (holds t l))
