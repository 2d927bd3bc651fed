-- With which sample a sample is compared.
use Rattle.std.proofs.Common.{◌≡◌, ℕ, zero, suc, ◌+◌, ◌*◌, ◌^◌, ◌<◌, ◌≤◌, max, refl, ap, ◌∙◌, add-one, arith, pow_pos}
use native.Mathlib.Decide.{dec_le}
use Rattle.std.proofs.lemmas.Bool.Decides.{nat_tests}
use Rattle.cycle.specs.Comparisons.{next_compared, compared_with, GreatestPowerBelow}
use Rattle.cycle.specs.Theorems.{ComparedRight}
use Rattle.cycle.proofs.Powers.{above_power, no_greater}

moves : (k p : ℕ) → k ≡ max 1 (2 * p) → next_compared k p ≡ k
moves k p e = grind (arith, nat_tests)

stays : (k p : ℕ) → (k ≡ max 1 (2 * p) → ⊥) → next_compared k p ≡ p
stays k p n = grind (arith, nat_tests)

-- the step as a program counts
pub compared_more : (k : ℕ) → compared_with (k + 1) ≡ next_compared k (compared_with k)
unfolding compared_with
compared_more k = rw add-one

pub compared_first : compared_with 1 ≡ 0
unfolding compared_with
compared_first = refl

-- Sample k is compared with the power of two that is below k and whose double is not.
abbrev pub ByPower : ℕ → Type 0
ByPower k = (e : ℕ) → 2 ^ e < k → k ≤ 2 * 2 ^ e → compared_with k ≡ 2 ^ e

-- sample 2 ^ e is kept for the next
kept_at_power : (k e : ℕ) → ByPower k → k ≡ 2 ^ e → next_compared k (compared_with k) ≡ 2 ^ e
kept_at_power k zero before q =
    let c : compared_with k ≡ 0 = ap compared_with q ∙ compared_first in
    moves k (compared_with k) (omega arith) ∙ q
kept_at_power k (suc e) before q =
    let c : compared_with k ≡ 2 ^ e = before e (omega (arith, pow_pos e)) (omega arith) in
    moves k (compared_with k) (omega (arith, pow_pos e)) ∙ q

kept_on : (k e : ℕ) → ByPower k → 2 ^ e < k → k < 2 * 2 ^ e → next_compared k (compared_with k) ≡ 2 ^ e
kept_on k e before o w =
    let c : compared_with k ≡ 2 ^ e = before e o (omega arith) in
    stays k (compared_with k) (λ q. omega arith) ∙ c

pub compared_power : (k : ℕ) → ByPower k
unfolding compared_with
compared_power zero e o w = absurd (omega arith)
compared_power (suc k) e o w = go (compared_power k) (dec_le k (2 ^ e))
  where
    go : ByPower k → Dec (k ≤ 2 ^ e) → next_compared k (compared_with k) ≡ 2 ^ e
    go before (yes h) = kept_at_power k e before (omega arith)
    go before (no h) = kept_on k e before (omega arith) (omega arith)

pub compared_greatest : (k : ℕ) → 2 ≤ k → GreatestPowerBelow k (compared_with k)
compared_greatest k h =
    let a = above_power k h in
    let c : compared_with k ≡ 2 ^ a.exponent = compared_power k a.exponent a.over a.within in
    record {
      exponent = a.exponent;
      power = c;
      below = omega arith;
      greatest = λ e o. let l : 2 ^ e ≤ 2 ^ a.exponent = no_greater k a.exponent a.within e o in omega arith;
    }

pub compared_earlier : (k : ℕ) → 1 ≤ k → compared_with k < k
compared_earlier k h = go (dec_le 2 k)
  where
    go : Dec (2 ≤ k) → compared_with k < k
    go (yes l) = (compared_greatest k l).below
    go (no l) = let e : k ≡ 1 = omega arith in omega (arith, ap compared_with e, compared_first)

pub compared_right : ComparedRight
compared_right k h = record {
  earlier = compared_earlier k h;
  first = λ e. ap compared_with e ∙ compared_first;
  later = compared_greatest k;
}
