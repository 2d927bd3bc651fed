-- Masks and counts of bits give the lines that are left and their number. Assumes nothing.
use Rattle.std.specs.Prelude.{◌≡◌, ℕ, zero, suc, ◌+◌, ◌-◌, ◌*◌, ◌/◌, ◌%◌, ◌^◌, ◌<◌, ◌≤◌, min, Bool, true, false, cond, not, ◌&&◌, ◌==◌, ◌≢◌, bit_and, refl}
use Rattle.std.specs.Int.{bit_at, w64}
use Rattle.std.specs.Int.Count.{ones, ones_step}
use Rattle.std.proofs.Common.{⊎_elim, sym, ap, ◌∙◌, pow-suc, arith}
use Rattle.std.proofs.lemmas.Bool.{cases_eq}
use Rattle.std.proofs.lemmas.Bool.Decides.{nat_tests}
use Rattle.std.proofs.lemmas.Nat.{and_le_l}
use Rattle.std.proofs.lemmas.Nat.Bits.{bit_at-lt, bit_at-suc, bit_at_and, bit_at_not, same_from_bits_below}
use Rattle.plan.specs.Blocks.{holds}
use Rattle.delay.specs.Lines.{set_below, count_below, without, count_lines, missing}

pub bit_small : (b : Bool) → cond {A = ℕ} b 1 0 ≤ 1
bit_small true = omega arith
bit_small false = omega arith

-- ---- the set digits of a set of lines are its lines

one_more : (x b : ℕ) → b ≤ 1 → ones (x * 2 + b) ≡ ones x + b
one_more x b h =
    let low : (x * 2 + b) % 2 ≡ b = omega arith in
    let rest : (x * 2 + b) / 2 ≡ x = omega arith in
    let step = ones_step (x * 2 + b) in
    let count = ap ones rest in
    omega arith

pub ones_set : (n : ℕ) (p : ℕ → Bool) → ones (set_below n p) ≡ count_below n p
unfolding set_below count_below ones
ones_set zero p = refl
ones_set (suc n) p = one_more (set_below n p) (cond (p n) 1 0) (bit_small (p n)) ∙ ap (λ (z : ℕ). z + cond (p n) 1 0) (ones_set n p)

-- ---- the bits of a set of lines tell its lines, and the set of such bits is that number

set_bit : (n : ℕ) (p : ℕ → Bool) (l : ℕ) → l < n → bit_at (set_below n p) (n - 1 - l) ≡ cond (p l) 1 0
unfolding set_below
set_bit zero p l h = absurd (omega arith)
set_bit (suc n) p l h = ⊎_elim here (before (λ less. set_bit n p l less)) (cases_eq l n)
  where
    here : l ≡ n → bit_at (set_below (suc n) p) (suc n - 1 - l) ≡ cond (p l) 1 0
    here e =
        let last : suc n - 1 - l ≡ 0 = omega arith in
        let unit : (set_below n p * 2 + cond (p n) 1 0) / 1 % 2 ≡ cond (p n) 1 0 = omega (arith, bit_small (p n)) in
        ap (bit_at (set_below (suc n) p)) last ∙ unit ∙ ap (λ (z : ℕ). cond (p z) 1 0) (sym e)

    before : (l < n → bit_at (set_below n p) (n - 1 - l) ≡ cond (p l) 1 0) → (l ≢ n) → bit_at (set_below (suc n) p) (suc n - 1 - l) ≡ cond (p l) 1 0
    before lower ne =
        let up : suc n - 1 - l ≡ suc (n - 1 - l) = omega arith in
        let rest : (set_below n p * 2 + cond (p n) 1 0) / 2 ≡ set_below n p = omega (arith, bit_small (p n)) in
        ap (bit_at (set_below (suc n) p)) up
        ∙ bit_at-suc (set_below (suc n) p) (n - 1 - l)
        ∙ ap (λ (z : ℕ). bit_at z (n - 1 - l)) rest
        ∙ lower (omega arith)

set_fits : (n : ℕ) (p : ℕ → Bool) → set_below n p < 2 ^ n
unfolding set_below
set_fits zero p = omega arith
set_fits (suc n) p = omega (arith, set_fits n p, bit_small (p n), pow-suc 2 n)

drawn : (x : ℕ) (p : ℕ → Bool) → x < 2 ^ 64 → ((l : ℕ) → l < 64 → bit_at x (63 - l) ≡ cond (p l) 1 0) → x ≡ set_below 64 p
drawn x p h each = same_from_bits_below 64 x (set_below 64 p) h (set_fits 64 p) same
  where
    same : (i : ℕ) → i < 64 → bit_at x i ≡ bit_at (set_below 64 p) i
    same i k =
        let line : 63 - i < 64 = omega arith in
        let back : 63 - (63 - i) ≡ i = omega arith in
        sym (ap (bit_at x) back) ∙ each (63 - i) line ∙ sym (set_bit 64 p (63 - i) line) ∙ ap (bit_at (set_below 64 p)) back

bit_told : (b : Bool) (x : ℕ) → x ≡ cond b 1 0 → (x == 1) ≡ b
bit_told true x e = grind (arith, nat_tests)
bit_told false x e = grind (arith, nat_tests)

-- a set of lines holds the lines that it was made of
pub set_holds : (p : ℕ → Bool) (l : ℕ) → l < 64 → holds (set_below 64 p) l ≡ p l
set_holds p l h = bit_told (p l) _ (set_bit 64 p l h)

-- ---- counts of bits

bit_is : (b : ℕ) → b < 2 → b ≡ cond (b == 1) 1 0
bit_is b h = grind (arith, nat_tests)

pub count_is_ones : (s : ℕ) → s < 2 ^ 64 → ones s ≡ count_lines s
count_is_ones s k = ap ones (drawn s (holds s) k (λ l h. bit_is (bit_at s (63 - l)) (bit_at-lt s (63 - l)))) ∙ ones_set 64 (holds s)

pub missing_counted : (s t x : ℕ) → x < 2 ^ 64 → x ≡ without s t → count_lines x ≡ missing s t
missing_counted s t x k e = sym (count_is_ones x k) ∙ ap ones e ∙ ones_set 64 (λ l. holds s l && not (holds t l))

-- ---- a mask takes lines out

masked_bit : (a b : ℕ) → a < 2 → b < 2 → min a (1 - b) ≡ cond (a == 1 && not (b == 1)) 1 0
masked_bit a b h k = grind (arith, nat_tests)

pub masked : (s t : ℕ) → s < 2 ^ 64 → t < 2 ^ 64 → bit_and s (2 ^ 64 - 1 - t) ≡ without s t
masked s t j k = drawn (bit_and s (2 ^ 64 - 1 - t)) (λ l. holds s l && not (holds t l)) (omega (arith, and_le_l s (2 ^ 64 - 1 - t))) line
  where
    line : (l : ℕ) → l < 64 → bit_at (bit_and s (2 ^ 64 - 1 - t)) (63 - l) ≡ cond (holds s l && not (holds t l)) 1 0
    line l h =
        bit_at_and s (2 ^ 64 - 1 - t) (63 - l)
        ∙ ap (min (bit_at s (63 - l))) (bit_at_not w64 t (63 - l) k (omega arith))
        ∙ masked_bit (bit_at s (63 - l)) (bit_at t (63 - l)) (bit_at-lt s (63 - l)) (bit_at-lt t (63 - l))
