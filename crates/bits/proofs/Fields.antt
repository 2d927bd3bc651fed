-- The laws of a field, over its width.
use Rattle.std.proofs.Common.{◌≡◌, ℕ, zero, suc, ◌+◌, ◌-◌, ◌*◌, ◌/◌, ◌%◌, ◌^◌, ◌<◌, ◌≤◌, Bool, true, false, cond, ltb, List, get_or, refl, ap, ◌∙◌, pow-suc, add-one, arith}
use lib.Bits.{bit_and, bit_or}
use Rattle.std.proofs.lemmas.Nat.{and_mask, or_shifted, shl_whole, shr-shr, mod-pow-add}
use Rattle.std.specs.Int.{from_bool}
use Rattle.std.proofs.lemmas.Bool.Decides.{nat_tests}
use Rattle.bits.specs.Bits.{bit, spelled}

pub bit_below_two : (bs : List ℕ) (i : ℕ) → bit bs i < 2
unfolding bit
bit_below_two bs i = omega arith

-- whether the last bit is set, as a bit
pub last_bit : (y : ℕ) → cond (ltb 0 (bit_and y 1)) 1 0 ≡ y % 2
last_bit y = rw (and_mask y 1) (grind (arith, nat_tests))

as_number : (t : Bool) → from_bool t ≡ cond t 1 0
as_number true = refl
as_number false = refl

-- the last bit of a shifted byte
pub bit_of_byte : (bs : List ℕ) (i : ℕ) → bit_and (get_or bs (i / 8) 0 / 2 ^ (7 - i % 8)) 1 ≡ bit bs i
unfolding bit
bit_of_byte bs i = and_mask (get_or bs (i / 8) 0 / 2 ^ (7 - i % 8)) 1

-- whether it is set, as a bit
pub bit_is_set : (bs : List ℕ) (i : ℕ) → from_bool (ltb 0 (bit_and (get_or bs (i / 8) 0 / 2 ^ (7 - i % 8)) 1)) ≡ bit bs i
bit_is_set bs i = rw (bit_of_byte bs i) (as_number _ ∙ grind (arith, nat_tests, bit_below_two bs i))

pub spelled_none : (bs : List ℕ) (at : ℕ) → spelled bs at 0 ≡ 0
unfolding spelled
spelled_none bs at = refl

pub spelled_more : (bs : List ℕ) (at w : ℕ) → spelled bs at (w + 1) ≡ 2 * spelled bs at w + bit bs (at + w)
unfolding spelled
spelled_more bs at w = rw add-one

pub spelled_below_power : (bs : List ℕ) (at w : ℕ) → spelled bs at w < 2 ^ w
unfolding spelled
spelled_below_power bs at zero = omega arith
spelled_below_power bs at (suc w) =
    omega (arith, spelled_below_power bs at w, bit_below_two bs (at + w), pow-suc 2 w)

-- two fields that agree in each of their bits
pub spelled_same : (cs bs : List ℕ) (c b w : ℕ) → ((k : ℕ) → k < w → bit cs (c + k) ≡ bit bs (b + k)) → spelled cs c w ≡ spelled bs b w
unfolding spelled
spelled_same cs bs c b zero h = refl
spelled_same cs bs c b (suc w) h =
    omega (arith, spelled_same cs bs c b w (λ k l. h k (omega arith)), h w (omega arith))

-- a value shifted left by one, with the next bit in the free place
pub spelled_shift : (bs : List ℕ) (at w v b : ℕ) → w < 64 → v ≡ spelled bs at w → b ≡ bit bs (at + w) → bit_or ((v * 2 ^ 1) % 2 ^ 64) b ≡ spelled bs at (w + 1)
spelled_shift bs at w v b h e f =
    let below : v < 2 ^ w = rw e (spelled_below_power bs at w) in
    let small : b < 2 ^ 1 = omega (arith, bit_below_two bs (at + w)) in
    let kept : (v * 2 ^ 1) % 2 ^ 64 ≡ v * 2 ^ 1 = shl_whole v w 1 64 below (omega arith) in
    let joined : bit_or (v * 2 ^ 1) b ≡ v * 2 ^ 1 + b = or_shifted v 1 b small in
    let next = spelled_more bs at w in
    let whole : bit_or ((v * 2 ^ 1) % 2 ^ 64) b ≡ v * 2 ^ 1 + b = ap (λ (x : ℕ). bit_or x b) kept ∙ joined in
    whole ∙ omega arith

-- a further bit of a number, from above
pub mod_one_more : (y w : ℕ) → y % 2 ^ (w + 1) ≡ 2 * (y / 2 % 2 ^ w) + y % 2
mod_one_more y w = mod-pow-add y w 1 ∙ omega arith

-- a field that lies in one byte, by that byte
pub spelled_in_byte : (bs : List ℕ) (k a w : ℕ) → a + w ≤ 8 → spelled bs (8 * k + a) w ≡ get_or bs k 0 / 2 ^ (8 - (a + w)) % 2 ^ w
unfolding spelled bit
spelled_in_byte bs k a zero h = omega arith
spelled_in_byte bs k a (suc w) h =
    let byte : (8 * k + a + w) / 8 ≡ k = omega arith in
    let place : (8 * k + a + w) % 8 ≡ a + w = omega arith in
    let y = get_or bs k 0 / 2 ^ (7 - (a + w)) in
    let before = spelled_in_byte bs k a w (omega arith) in
    let half : y / 2 ≡ get_or bs k 0 / 2 ^ (8 - (a + w)) =
    shr-shr (get_or bs k 0) (7 - (a + w)) 1 ∙ (let e : 7 - (a + w) + 1 ≡ 8 - (a + w) = omega arith in ap (λ (z : ℕ). get_or bs k 0 / 2 ^ z) e) in
    let more = mod_one_more y w in
    let less : 8 - (a + suc w) ≡ 7 - (a + w) = omega arith in
    let next : w + 1 ≡ suc w = omega arith in
    cc
