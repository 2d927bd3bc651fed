-- Facts that hold of a list place by place.
use Rattle.std.proofs.Common.{◌≡◌, ℕ, zero, suc, List, [], ◌∷◌, get_or, set, refl}

-- what holds at each place, and of a new element at place j, holds at each place once the element is set there
pub placed_set : {X : Type 0} (P : ℕ → X → Type 0) (d : X) (xs : List X) (j : ℕ) (x : X) → P j x → ((i : ℕ) → P i (get_or xs i d)) → (i : ℕ) → P i (get_or (set xs j x) i d)
placed_set P d [] j x h a i = a i
placed_set P d (y ∷ ys) zero x h a zero = h
placed_set P d (y ∷ ys) zero x h a (suc i) = a (suc i)
placed_set P d (y ∷ ys) (suc j) x h a zero = a zero
placed_set P d (y ∷ ys) (suc j) x h a (suc i) = placed_set (λ k. P (suc k)) d ys j x h (λ k. a (suc k)) i

-- what a list has at a place where the element for a place past its end was set
pub set_default : {X : Type 0} (xs : List X) (j : ℕ) (d : X) → get_or (set xs j d) j d ≡ d
set_default [] j d = refl
set_default (x ∷ xs) zero d = refl
set_default (x ∷ xs) (suc j) d = set_default xs j d
