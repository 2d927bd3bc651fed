-- The fields of the head, by shifts and masks of its two bytes: each lies at an end of its byte.
use Rattle.std.proofs.Common.{◌≡◌, ℕ, ◌+◌, ◌*◌, ◌-◌, ◌/◌, ◌%◌, ◌^◌, ◌<◌, ◌≤◌, List, get_or, sym, ap, ◌∙◌, pow-add, arith}
use lib.Bits.{bit_and}
use Rattle.std.proofs.Math.Nat.{div-lt_iff_lt-mul, mod-eq_of_lt}
use Rattle.std.proofs.lemmas.Nat.{and_mask, pow_pos}
use Rattle.bits.proofs.Fields.{spelled_in_byte}
use Rattle.bits.specs.Bits.{spelled}

module _ (bs : List ℕ) (k w : ℕ) (within : w ≤ 8) where
  -- the first w bits of byte k
  first_bits : get_or bs k 0 < 2 ^ 8 → spelled bs (8 * k) w ≡ get_or bs k 0 / 2 ^ (8 - w)
  first_bits h =
      let whole : 2 ^ 8 ≡ 2 ^ w * 2 ^ (8 - w) = (let e : 8 ≡ w + (8 - w) = omega arith in ap (λ (n : ℕ). 2 ^ n) e ∙ pow-add 2 w (8 - w)) in
      let small : get_or bs k 0 / 2 ^ (8 - w) < 2 ^ w = (div-lt_iff_lt-mul (pow_pos (8 - w))).1 (omega (arith, whole, h)) in
      let here : 8 * k + 0 ≡ 8 * k = omega arith in
      let shift : 8 - (0 + w) ≡ 8 - w = omega arith in
      sym (ap (λ (n : ℕ). spelled bs n w) here)
      ∙ (spelled_in_byte bs k 0 w (omega arith) ∙ (ap (λ (n : ℕ). get_or bs k 0 / 2 ^ n % 2 ^ w) shift ∙ mod-eq_of_lt small))

  -- its last w bits
  last_bits : spelled bs (8 * k + (8 - w)) w ≡ bit_and (get_or bs k 0) (2 ^ w - 1)
  last_bits =
      let full : 8 - w + w ≤ 8 = omega arith in
      let none : 8 - (8 - w + w) ≡ 0 = omega arith in
      let whole : get_or bs k 0 / 1 ≡ get_or bs k 0 = omega arith in
      spelled_in_byte bs k (8 - w) w full
      ∙ (ap (λ (n : ℕ). get_or bs k 0 / 2 ^ n % 2 ^ w) none ∙ (ap (λ (n : ℕ). n % 2 ^ w) whole ∙ sym (and_mask (get_or bs k 0) w)))

module _ (bs : List ℕ) where
  pub revision_bits : get_or bs 0 0 < 2 ^ 8 → spelled bs 0 4 ≡ get_or bs 0 0 / 16
  revision_bits h = first_bits bs 0 4 (omega arith) h

  pub count_bits : spelled bs 4 4 ≡ bit_and (get_or bs 0 0) 15
  count_bits = last_bits bs 0 4 (omega arith)

  pub reload_bits : get_or bs 1 0 < 2 ^ 8 → spelled bs 8 6 ≡ get_or bs 1 0 / 4
  reload_bits h = first_bits bs 1 6 (omega arith) h

  pub spare_bits : spelled bs 14 2 ≡ bit_and (get_or bs 1 0) 3
  spare_bits = last_bits bs 1 2 (omega arith)
