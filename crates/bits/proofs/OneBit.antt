-- A byte with one of its bits set or cleared: what each of its bits is then. Bits are counted from the most significant.
use Rattle.std.proofs.Common.{◌≡◌, ℕ, zero, suc, ◌-◌, ◌*◌, ◌/◌, ◌%◌, ◌^◌, ◌<◌, Bool, true, false, cond, ◌&&◌, eqb, refl, ap, ◌∙◌, arith}
use lib.Bits.{bit_and, bit_or}
use Rattle.std.proofs.lemmas.Nat.{and_shr, and_mod, or_shr, or_mod}
use Rattle.std.proofs.lemmas.Bool.{and_parts, eqb-true}
use Rattle.std.proofs.lemmas.Bool.Decides.{Decides-below_and}

-- the byte that has bit k alone, as the code makes it
abbrev pub mask : ℕ → ℕ
mask k = (1 * 2 ^ (7 - k)) % 256

-- a test of each number below n, to be computed
abbrev all : ℕ → (ℕ → Bool) → Bool
all zero p = true
all (suc n) p = p n && all n p

all_at : (n : ℕ) (p : ℕ → Bool) → all n p ≡ true → (k : ℕ) → k < n → p k ≡ true
all_at n p h = (Decides-below_and p (λ k. p k ≡ true) (λ m. all m p) (λ k. ((λ e. e), (λ e. e))) refl (λ _. refl) n).0 h

-- bit j of a mask, and of its complement
abbrev mask_test : ℕ → ℕ → Bool
mask_test k j = eqb (mask k / 2 ^ (7 - j) % 2) (cond (eqb j k) 1 0) && eqb ((255 - mask k) / 2 ^ (7 - j) % 2) (cond (eqb j k) 0 1)

masks : (k j : ℕ) → k < 8 → j < 8 → mask_test k j ≡ true
masks k j hk hj = all_at 8 (mask_test k) (all_at 8 (λ i. all 8 (mask_test i)) refl k hk) j hj

-- the operations at one bit
or_small : (t : Bool) (x y : ℕ) → x < 2 → y ≡ cond t 1 0 → bit_or x y ≡ cond t 1 x
or_small true zero y h e = e
or_small true (suc zero) y h e = rw e refl
or_small true (suc (suc x)) y h e = absurd (omega arith)
or_small false zero y h e = e
or_small false (suc zero) y h e = rw e refl
or_small false (suc (suc x)) y h e = absurd (omega arith)

and_small : (t : Bool) (x y : ℕ) → x < 2 → y ≡ cond t 0 1 → bit_and x y ≡ cond t 0 x
and_small true zero y h e = refl
and_small true (suc zero) y h e = rw e refl
and_small true (suc (suc x)) y h e = absurd (omega arith)
and_small false zero y h e = refl
and_small false (suc zero) y h e = rw e refl
and_small false (suc (suc x)) y h e = absurd (omega arith)

-- the byte with bit k set
pub set_bit : (b k j : ℕ) → k < 8 → j < 8 → bit_or b (mask k) / 2 ^ (7 - j) % 2 ≡ cond (eqb j k) 1 (b / 2 ^ (7 - j) % 2)
set_bit b k j hk hj =
    let t = 7 - j in
    let apart : bit_or b (mask k) / 2 ^ t % 2 ≡ bit_or (b / 2 ^ t % 2) (mask k / 2 ^ t % 2) = ap (λ (x : ℕ). x % 2) (or_shr b (mask k) t) ∙ or_mod (b / 2 ^ t) (mask k / 2 ^ t) 1 in
    let here = (and_parts (eqb (mask k / 2 ^ t % 2) (cond (eqb j k) 1 0)) _ (masks k j hk hj)).0 in
    apart ∙ or_small (eqb j k) (b / 2 ^ t % 2) (mask k / 2 ^ t % 2) (omega arith) (eqb-true _ _ here)

-- the byte with bit k cleared
pub clear_bit : (b k j : ℕ) → k < 8 → j < 8 → bit_and b (255 - mask k) / 2 ^ (7 - j) % 2 ≡ cond (eqb j k) 0 (b / 2 ^ (7 - j) % 2)
clear_bit b k j hk hj =
    let t = 7 - j in
    let apart : bit_and b (255 - mask k) / 2 ^ t % 2 ≡ bit_and (b / 2 ^ t % 2) ((255 - mask k) / 2 ^ t % 2) = ap (λ (x : ℕ). x % 2) (and_shr b (255 - mask k) t) ∙ and_mod (b / 2 ^ t) ((255 - mask k) / 2 ^ t) 1 in
    let here = (and_parts (eqb (mask k / 2 ^ t % 2) (cond (eqb j k) 1 0)) _ (masks k j hk hj)).1 in
    apart ∙ and_small (eqb j k) (b / 2 ^ t % 2) ((255 - mask k) / 2 ^ t % 2) (omega arith) (eqb-true _ _ here)
