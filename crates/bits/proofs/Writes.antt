-- The laws of a field that is written bit by bit.
use Rattle.std.proofs.Common.{◌≡◌, ℕ, ◌+◌, ◌-◌, ◌*◌, ◌/◌, ◌%◌, ◌^◌, ◌<◌, ◌≤◌, true, false, cond, eqb, ltb, List, length, get_or, set, sym, refl, ap, ◌∙◌, inl, inr, arith, pow_pos}
use Rattle.std.proofs.lemmas.Nat.{div_below, le-div, shr-shr}
use Rattle.std.proofs.lemmas.List.{get_or-set_same, get_or-set_other, length-set}
use Rattle.std.proofs.lemmas.Bool.{cases_eq, eq-eqb, ne_eqb, cond-true, cond-false, ltb-true}
use Rattle.std.proofs.lemmas.Bool.Decides.{nat_tests}
use Rattle.bits.specs.Bits.{bit, spelled}
use Rattle.bits.proofs.Fields.{spelled_none, spelled_more, spelled_same}

-- the bytes `new` are `old` with v in the n bits from `at` on, and each field beside these is as it was
pub record Written (old new : List ℕ) (at n v : ℕ) : Type 0 where
  pub field : spelled new at n ≡ v
  pub earlier : (a w : ℕ) → a + w ≤ at → spelled new a w ≡ spelled old a w
  pub later : (a w : ℕ) → at + n ≤ a → spelled new a w ≡ spelled old a w
  pub size : length new ≡ length old

-- one byte written anew, with the bit i at v and its other bits as they were
pub bit_of_set : (bs : List ℕ) (i x v : ℕ) → i < 8 * length bs
    → ((j : ℕ) → j < 8 → x / 2 ^ (7 - j) % 2 ≡ cond (eqb j (i % 8)) v (get_or bs (i / 8) 0 / 2 ^ (7 - j) % 2))
    → (k : ℕ) → bit (set bs (i / 8) x) k ≡ cond (eqb k i) v (bit bs k)
unfolding bit
bit_of_set bs i x v h f k =
    let within : i / 8 < length bs = omega arith in
    elim (cases_eq (k / 8) (i / 8)) [
      | inl e ↦
          let here : get_or (set bs (i / 8) x) (k / 8) 0 ≡ x = rw e (get_or-set_same bs (i / 8) x 0 within) in
          let byte = f (k % 8) (omega arith) in
          let test : eqb (k % 8) (i % 8) ≡ eqb k i = grind (arith, nat_tests) in
          let old : get_or bs (k / 8) 0 ≡ get_or bs (i / 8) 0 = ap (λ (z : ℕ). get_or bs z 0) e in
          cc
      | inr ne ↦
          let other : get_or (set bs (i / 8) x) (k / 8) 0 ≡ get_or bs (k / 8) 0 = get_or-set_other bs (i / 8) (k / 8) x 0 ne in
          let apart : eqb k i ≡ false = ne_eqb k i (λ q. ne (ap (λ (z : ℕ). z / 8) q)) in
          cc
    ]

-- nothing is written yet
pub written_none : (bs : List ℕ) (at v n : ℕ) → true ≡ ltb v (2 ^ n) → Written bs bs at 0 (v / 2 ^ (n - 0))
written_none bs at v n h =
    let none : v / 2 ^ n < 1 = div_below v (2 ^ n) 1 (pow_pos n) (omega (arith, ltb-true v (2 ^ n) (sym h))) in
    let all : n - 0 ≡ n = omega arith in
    record { field = spelled_none bs at ∙ rw all (omega arith); earlier = λ a w h. refl; later = λ a w h. refl; size = refl }

-- a further bit, behind those that are written
pub written_more : (old bs : List ℕ) (at n u v p x b : ℕ) → Written old bs at n u → p ≡ at + n → p < 8 * length bs
    → ((j : ℕ) → j < 8 → x / 2 ^ (7 - j) % 2 ≡ cond (eqb j (p % 8)) b (get_or bs (p / 8) 0 / 2 ^ (7 - j) % 2))
    → v ≡ 2 * u + b → Written old (set bs (p / 8) x) at (n + 1) v
written_more old bs at n u v p x b done e h f s =
    let bits = bit_of_set bs p x b h f in
    let apart : (k : ℕ) → (k ≡ p → ⊥) → bit (set bs (p / 8) x) k ≡ bit bs k = λ k ne. bits k ∙ cond-false _ _ _ (ne_eqb k p ne) in
    let new : bit (set bs (p / 8) x) (at + n) ≡ b = bits (at + n) ∙ cond-true _ _ _ (eq-eqb (at + n) p (sym e)) in
    let start = spelled_same (set bs (p / 8) x) bs at at n (λ k l. apart (at + k) (λ q. omega arith)) in
    record {
      field = spelled_more (set bs (p / 8) x) at n ∙ omega (arith, done.field);
      earlier = λ a w r. spelled_same (set bs (p / 8) x) bs a a w (λ k l. apart (a + k) (λ q. omega arith)) ∙ done.earlier a w r;
      later = λ a w r. spelled_same (set bs (p / 8) x) bs a a w (λ k l. apart (a + k) (λ q. omega arith)) ∙ done.later a w (omega arith);
      size = length-set bs (p / 8) x ∙ done.size;
    }

-- a number has at most n bits where nothing is left after n of them
pub fits_test : (v w n : ℕ) → w ≡ v → eqb (w / 2 ^ n) 0 ≡ ltb v (2 ^ n)
fits_test v w n e =
    let pos = pow_pos n in
    let down : v < 2 ^ n → w / 2 ^ n < 1 = λ h. div_below w (2 ^ n) 1 pos (omega arith) in
    let up : 2 ^ n ≤ v → 1 ≤ w / 2 ^ n = λ h. le-div 1 w (2 ^ n) pos (omega arith) in
    grind (arith, nat_tests)

-- the next bit of a number, from above
pub next_bit : (v n i : ℕ) → i < n → v / 2 ^ (n - (i + 1)) ≡ 2 * (v / 2 ^ (n - i)) + v / 2 ^ (n - 1 - i) % 2
next_bit v n i h =
    let less : n - 1 - i ≡ n - (i + 1) = omega arith in
    let more : n - (i + 1) + 1 ≡ n - i = omega arith in
    let half : v / 2 ^ (n - (i + 1)) / 2 ≡ v / 2 ^ (n - i) = shr-shr v (n - (i + 1)) 1 ∙ ap (λ (z : ℕ). v / 2 ^ z) more in
    let last : v / 2 ^ (n - 1 - i) ≡ v / 2 ^ (n - (i + 1)) = ap (λ (z : ℕ). v / 2 ^ z) less in
    omega arith
