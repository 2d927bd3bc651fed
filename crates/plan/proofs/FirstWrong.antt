-- The first check that is wrong, of two lists after one another.
use Rattle.std.proofs.Common.{◌≡◌, ℕ, Bool, true, false, cond, List, [], ◌∷◌, ◌++◌, Some, None, Ok, Err, Option, refl, ◌∙◌, arith}
use Rattle.plan.specs.Admission.{unless}
use Rattle.plan.specs.Checks.{Check, first_wrong}

module _ {F : Type 0} where
  -- a check that passed, before others
  pub none_left : (w : Bool) (f : F) (o : Option F) → cond w (Some f) o ≡ None → (w ≡ false) × (o ≡ None)
  none_left true f o e = let clash : ◌≡◌ {A = ℕ} 0 1 = cc in absurd (omega arith)
  none_left false f o e = (refl, e)

  pub passed_before : (xs ys : List (Check F)) → first_wrong xs ≡ None → first_wrong (xs ++ ys) ≡ first_wrong ys
  passed_before [] ys e = refl
  passed_before (x ∷ xs) ys e =
      let s = none_left x.wrong x.answer (first_wrong xs) e in
      let rest = passed_before xs ys s.1 in
      let skipped : cond x.wrong (Some x.answer) (first_wrong (xs ++ ys)) ≡ first_wrong (xs ++ ys) = cc s.0 in
      skipped ∙ rest

  pub wrong_before : (xs ys : List (Check F)) (f : F) → first_wrong xs ≡ Some f → first_wrong (xs ++ ys) ≡ Some f
  wrong_before [] ys f e = let clash : ◌≡◌ {A = ℕ} 0 1 = cc in absurd (omega arith)
  wrong_before (x ∷ xs) ys f e = at x.wrong x.answer (first_wrong xs) (first_wrong (xs ++ ys)) (wrong_before xs ys f) e where
    at : (w : Bool) (g : F) (o p : Option F) → (o ≡ Some f → p ≡ Some f) → cond w (Some g) o ≡ Some f → cond w (Some g) p ≡ Some f
    at true g o p h e = e
    at false g o p h e = h e

  pub unless_ok : {X : Type 0} (o : Option F) (x y : X) → Ok x ≡ unless o y → (o ≡ None) × (x ≡ y)
  unless_ok None x y e = (refl, cc)
  unless_ok (Some f) x y e = let clash : ◌≡◌ {A = ℕ} 0 1 = cc in absurd (omega arith)

  pub unless_err : {X : Type 0} (o : Option F) (f : F) (y : X) → Err f ≡ unless o y → o ≡ Some f
  unless_err None f y e = let clash : ◌≡◌ {A = ℕ} 0 1 = cc in absurd (omega arith)
  unless_err (Some g) f y e = cc

  -- where nothing is wrong, nothing is wrong in either part
  pub both_passed : (xs ys : List (Check F)) → first_wrong (xs ++ ys) ≡ None → (first_wrong xs ≡ None) × (first_wrong ys ≡ None)
  both_passed [] ys e = (refl, e)
  both_passed (x ∷ xs) ys e =
      let s = none_left x.wrong x.answer (first_wrong (xs ++ ys)) e in
      let r = both_passed xs ys s.1 in
      let skipped : cond x.wrong (Some x.answer) (first_wrong xs) ≡ first_wrong xs = cc s.0 in
      (skipped ∙ r.0, r.1)
