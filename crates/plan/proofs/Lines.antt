-- One mask tests whether a set of cache lines lies within another.
use Rattle.std.proofs.Common.{◌≡◌, ℕ, zero, suc, ◌+◌, ◌-◌, ◌*◌, ◌/◌, ◌%◌, ◌^◌, ◌<◌, ◌≤◌, min, not, ◌&&◌, ◌||◌, eqb, sym, ap, ◌∙◌, arith}
use lib.Bits.{bit_and, and_step}
use Rattle.std.proofs.lemmas.Nat.{shr-shr}
use Rattle.std.proofs.lemmas.Bool.Decides.{nat_tests}
use Rattle.plan.specs.Blocks.{every_below, holds, within}

-- one bit more of two numbers: their last bits, and the numbers without them
last_bits : (a b c : ℕ) → eqb (c * 2 + min (a % 2) (b % 2)) a ≡ (eqb c (a / 2) && (not (eqb (a % 2) 1) || eqb (b % 2) 1))
last_bits a b c = grind (arith, nat_tests)

and_last : (a b : ℕ) → eqb (bit_and a b) a ≡ (eqb (bit_and (a / 2) (b / 2)) (a / 2) && (not (eqb (a % 2) 1) || eqb (b % 2) 1))
and_last a b = ap (λ (z : ℕ). eqb z a) (and_step a b) ∙ last_bits a b (bit_and (a / 2) (b / 2))

halved : (s n m : ℕ) → m + 1 ≡ 64 - n → s / 2 ^ m / 2 ≡ s / 2 ^ (64 - n)
halved s n m e = shr-shr s m 1 ∙ ap (λ (z : ℕ). s / 2 ^ z) e

-- the first n lines, by the numbers that they spell
within_first : (s t n : ℕ) → s < 2 ^ 64 → n ≤ 64 → every_below n (λ l. not (holds s l) || holds t l) ≡ eqb (bit_and (s / 2 ^ (64 - n)) (t / 2 ^ (64 - n))) (s / 2 ^ (64 - n))
unfolding every_below
within_first s t zero k h =
    let none : s / 2 ^ 64 ≡ 0 = omega arith in
    sym (ap (λ (z : ℕ). eqb (bit_and z (t / 2 ^ 64)) z) none)
within_first s t (suc n) k h =
    let m : 64 - suc n ≡ 63 - n = omega arith in
    let up : 63 - n + 1 ≡ 64 - n = omega arith in
    let step = and_last (s / 2 ^ (63 - n)) (t / 2 ^ (63 - n)) in
    let rest = within_first s t n k (omega arith) in
    let left = halved s n (63 - n) up in
    let right = halved t n (63 - n) up in
    cc

pub within_by_mask : (s t : ℕ) → s < 2 ^ 64 → within s t ≡ eqb (bit_and s t) s
within_by_mask s t k =
    let whole = within_first s t 64 k (omega arith) in
    let left : s / 1 ≡ s = omega arith in
    let right : t / 1 ≡ t = omega arith in
    whole ∙ cc
