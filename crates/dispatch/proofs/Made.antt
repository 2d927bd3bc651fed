-- Arrays that `array::from_fn` makes.
use Rattle.std.proofs.Common.{◌≡◌, ℕ, zero, suc, ◌+◌, ◌<◌, ◌≤◌, List, get_or, subst, ◌∙◌, arith, eq-or-lt_of_le}
use Rattle.std.proofs.Math.Logic.{⊎_elim}
use Rattle.std.specs.Array.{IsFromFnResult, IsFromFnResultFrom}
use Rattle.std.specs.Fn.{Called}
use denote.Param.Members.{Mut}

-- An array made by a closure that in every state of which P holds answers h of the place.
module _ {F B : Type 0} (P : F → Type 0) (h : ℕ → B) where
  abbrev Answers : Mut F (ℕ × Unit {0}) B → Type 0
  Answers g = (p q : F) (i : ℕ) (y : B) → P p → Called g p (i, tt) y q → P q × (y ≡ h i)

  made_from : {g : Mut F (ℕ × Unit {0}) B} → Answers g → (n i k : ℕ) (p : F) (ys : List B) (d : B) → P p → IsFromFnResultFrom g p ys i n → i ≤ k → k < i + n → get_or ys k d ≡ h k
  made_from acts zero i k p ys d s e l m = absurd (omega arith)
  made_from acts (suc n) i k p ys d s (q, y, here, called, rest) l m =
      let next = acts p q i y s called in
      ⊎_elim
      (λ same. subst (λ z. get_or ys z d ≡ h z) same (here.1 d ∙ next.1))
      (λ later. made_from acts n (i + 1) k q ys d next.0 rest (omega arith) (omega arith))
      (eq-or-lt_of_le l)

  pub made_at : {g : Mut F (ℕ × Unit {0}) B} {f : F} {ys : List B} {n : ℕ} → IsFromFnResult g f ys n → P f → Answers g → (k : ℕ) (d : B) → k < n → get_or ys k d ≡ h k
  made_at {f = f} {ys = ys} {n = n} made s acts k d l = made_from acts n 0 k f ys d s made.each (omega arith) (omega arith)
