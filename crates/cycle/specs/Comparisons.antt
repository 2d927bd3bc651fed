-- Which samples are compared. Assumes nothing.
--     next_compared k p           what sample k + 1 is compared with, where sample k is compared with sample p
--     compared_with k             the number of the sample with which sample k is compared
--     GreatestPowerBelow k p      p is the greatest power of two below k
--     IsCompared k p              p is the number with which number k, from 1 on, has to be compared
use Rattle.std.specs.Prelude.{◌≡◌, ℕ, zero, suc, ◌*◌, ◌^◌, ◌<◌, ◌≤◌, max, cond, ◌==◌}

-- The kept sample is changed for sample k where k is twice its number, or 1 where its number is 0.
abbrev pub next_compared : ℕ → ℕ → ℕ
next_compared k p = cond (k == max 1 (2 * p)) k p

-- From one sample to the next, so that one sample is kept at a time. Sample 0 is compared with none, and has 0 here.
unfoldable pub compared_with : ℕ → ℕ
compared_with zero = 0
compared_with (suc k) = next_compared k (compared_with k)

pub record GreatestPowerBelow (k p : ℕ) : Type 0 where
  pub exponent : ℕ
  pub power : p ≡ 2 ^ exponent
  pub below : p < k
  pub greatest : (e : ℕ) → 2 ^ e < k → 2 ^ e ≤ p

-- Always an earlier one: 0 for sample 1, and the greatest power of two below for every later one.
pub record IsCompared (k p : ℕ) : Type 0 where
  pub earlier : p < k
  pub first : k ≡ 1 → p ≡ 0
  pub later : 2 ≤ k → GreatestPowerBelow k p
