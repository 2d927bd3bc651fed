-- Common multiples of periods. Assumes nothing.
--     common n ts           n is a multiple of every number of ts
--     common_up_to k ts     some number from 1 to k is a multiple of every number of ts
--     hyperperiod_limit     the longest common period of an admitted plan
--     IsLcm n ts            n is the least common multiple of ts
--     IsGcd g a b           g is the greatest common divisor of a and b
--     Joins n a b           n is the least common multiple of a and b
use Rattle.std.specs.Prelude.{◌≡◌, ℕ, zero, suc, ◌*◌, ◌%◌, ◌<◌, Bool, true, false, ◌&&◌, ◌||◌, List, [], ◌∷◌, ◌==◌}
use Rattle.std.specs.Int.{◌∣◌}

-- Division leaves nothing over, for each of them.
abbrev pub common : ℕ → List ℕ → Bool
common n [] = true
common n (t ∷ ts) = n % t == 0 && common n ts

-- Looked for from above, as a table would be read.
unfoldable pub common_up_to : ℕ → List ℕ → Bool
common_up_to zero ts = false
common_up_to (suc n) ts = common (suc n) ts || common_up_to n ts

-- In ticks.
abbrev pub hyperperiod_limit : ℕ
hyperperiod_limit = 1000000000

-- Positive, a multiple of each number, and a divisor of every common multiple.
abbrev pub IsLcm : ℕ → List ℕ → Type 0
IsLcm n ts = (0 < n) × (common n ts ≡ true) × ((m : ℕ) → common m ts ≡ true → n ∣ m)

-- A common divisor that every common divisor divides. And a × b divides its product with each common multiple, from which the least one follows.
pub record IsGcd (g a b : ℕ) : Type 0 where
  pub left : g ∣ a
  pub right : g ∣ b
  pub greatest : (d : ℕ) → d ∣ a → d ∣ b → d ∣ g
  pub joint : (m : ℕ) → a ∣ m → b ∣ m → a * b ∣ g * m

-- Positive, a multiple of both, and a divisor of every multiple of both.
pub record Joins (n a b : ℕ) : Type 0 where
  pub positive : 0 < n
  pub left : a ∣ n
  pub right : b ∣ n
  pub least : (m : ℕ) → a ∣ m → b ∣ m → n ∣ m
