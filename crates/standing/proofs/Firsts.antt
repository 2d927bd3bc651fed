-- What the first number of which a test holds says of the numbers before it.
use Rattle.std.proofs.Common.{◌≡◌, ℕ, zero, suc, ◌<◌, ◌≤◌, Bool, true, false, cond, Some, None, Option, refl, subst, sym, ⊎_elim, eq-or-lt_of_le, arith}
use Rattle.dispatch.specs.Rules.{first_such, or_else}

abbrev pub First : ℕ → (ℕ → Bool) → Option ℕ → Type 0
First n p None = (k : ℕ) → k < n → p k ≡ false
First n p (Some j) = (j < n) × (p j ≡ true) × ((k : ℕ) → k < j → p k ≡ false)

first_more : (n : ℕ) (p : ℕ → Bool) (o : Option ℕ) → First n p o → (b : Bool) → p n ≡ b → First (suc n) p (or_else o (cond b (Some n) None))
first_more n p (Some j) h b e = ((let l : j < suc n = omega (arith, h.0) in l), h.1, h.2)
first_more n p None h true e = (omega arith, e, h)
first_more n p None h false e = λ k l.
    ⊎_elim (λ same. subst (λ (z : ℕ). p z ≡ false) (sym same) e) (λ below. h k below) (eq-or-lt_of_le (let le : k ≤ n = omega arith in le))

pub first_is : (n : ℕ) (p : ℕ → Bool) → First n p (first_such n p)
unfolding first_such
first_is zero p = λ k l. absurd (omega arith)
first_is (suc n) p = first_more n p (first_such n p) (first_is n p) (p n) refl
