-- Powers of two between a number and its double.
use Rattle.std.proofs.Common.{ℕ, zero, suc, ◌*◌, ◌^◌, ◌<◌, ◌≤◌, arith, pow_pos, pow_mono}
use native.Mathlib.Decide.{dec_le}

-- n lies above a power of two, and not above its double.
pub record Above (n : ℕ) : Type 0 where
  pub exponent : ℕ
  pub over : 2 ^ exponent < n
  pub within : n ≤ 2 * 2 ^ exponent

-- one more is within the double still, or lies above it
above_more : (n : ℕ) → Above n → Above (suc n)
above_more n a = go (dec_le (suc n) (2 * 2 ^ a.exponent))
  where
    go : Dec (suc n ≤ 2 * 2 ^ a.exponent) → Above (suc n)
    go (yes h) = record { exponent = a.exponent; over = omega arith; within = h }
    go (no h) = record { exponent = suc a.exponent; over = omega arith; within = omega (arith, pow_pos a.exponent) }

pub above_power : (n : ℕ) → 2 ≤ n → Above n
above_power zero h = absurd (omega arith)
above_power (suc zero) h = absurd (omega arith)
above_power (suc (suc zero)) h = record { exponent = 0; over = omega arith; within = omega arith }
above_power (suc (suc (suc n))) h = above_more (suc (suc n)) (above_power (suc (suc n)) (omega arith))

-- A power of two is no less than n, and less than its double.
pub record Reach (n : ℕ) : Type 0 where
  pub exponent : ℕ
  pub reached : n ≤ 2 ^ exponent
  pub near : 2 ^ exponent < 2 * n

-- the double of the power below n reaches n
pub reach_power : (n : ℕ) → 1 ≤ n → Reach n
reach_power zero h = absurd (omega arith)
reach_power (suc zero) h = record { exponent = 0; reached = omega arith; near = omega arith }
reach_power (suc (suc n)) h =
    let a = above_power (suc (suc n)) (omega arith) in
    record { exponent = suc a.exponent; reached = omega arith; near = omega arith }

-- of two powers below n, the one whose double reaches n is the greater
pub no_greater : (n d : ℕ) → n ≤ 2 * 2 ^ d → (e : ℕ) → 2 ^ e < n → 2 ^ e ≤ 2 ^ d
no_greater n d w e h = go (dec_le e d)
  where
    go : Dec (e ≤ d) → 2 ^ e ≤ 2 ^ d
    go (yes l) = pow_mono l
    go (no l) = let g : suc d ≤ e = omega arith in omega (arith, pow_mono g)
