-- What is in a list after one thing was done to each of its first elements.
use Rattle.std.proofs.Common.{◌≡◌, ℕ, zero, suc, ◌+◌, ◌<◌, ◌≤◌, ◌≢◌, List, ◌∷◌, map, length, get_or, set, take, refl, sym, ap, ◌∙◌, ⊎_elim, eq-or-lt_of_le, add-one, arith}
use Rattle.std.proofs.lemmas.List.{ext_get_or, get_or-set_other, get_or-set_same, get_or-take, length-set, length-take-le, set-get_or}
use Rattle.std.specs.List.{range_with_len}
use Rattle.schedule.specs.Each.{each}

pub each_more : {X : Type 0} (d : X) (n : ℕ) (f : ℕ → X → X) (xs : List X) → each d (n + 1) f xs ≡ set (each d n f xs) n (f n (get_or xs n d))
unfolding each
each_more d n f xs = rw add-one

pub length_each : {X : Type 0} (d : X) (n : ℕ) (f : ℕ → X → X) (xs : List X) → length (each d n f xs) ≡ length xs
unfolding each
length_each d zero f xs = refl
length_each d (suc n) f xs = length-set (each d n f xs) n (f n (get_or xs n d)) ∙ length_each d n f xs

-- an element that its turn has not come to
pub each_ahead : {X : Type 0} (d : X) (n : ℕ) (f : ℕ → X → X) (xs : List X) (k : ℕ) (e : X) → n ≤ k → get_or (each d n f xs) k e ≡ get_or xs k e
unfolding each
each_ahead d zero f xs k e h = refl
each_ahead d (suc n) f xs k e h =
    let other : k ≢ n = omega arith in
    get_or-set_other (each d n f xs) n k (f n (get_or xs n d)) e other ∙ each_ahead d n f xs k e (omega arith)

-- one element more, of a list of which the first n are done
pub each_next : {X : Type 0} (d : X) (n : ℕ) (f : ℕ → X → X) (xs ys : List X) → ys ≡ each d n f xs → set ys n (f n (get_or ys n d)) ≡ each d (n + 1) f xs
each_next d n f xs ys e =
    ap (λ zs. set zs n (f n (get_or zs n d))) e ∙ ap (λ x. set (each d n f xs) n (f n x)) (each_ahead d n f xs n d (omega arith)) ∙ sym (each_more d n f xs)

pub each_at : {X : Type 0} (d : X) (n : ℕ) (f : ℕ → X → X) (xs : List X) (k : ℕ) (e : X) → k < n → k < length xs → get_or (each d n f xs) k e ≡ f k (get_or xs k d)
unfolding each
each_at d zero f xs k e h l = absurd (omega arith)
each_at d (suc n) f xs k e h l =
    ⊎_elim
    (λ same. here same)
    (λ below.
    let other : k ≢ n = omega arith in
    get_or-set_other (each d n f xs) n k (f n (get_or xs n d)) e other ∙ each_at d n f xs k e below l)
    (eq-or-lt_of_le (let le : k ≤ n = omega arith in le))
  where
    here : k ≡ n → get_or (set (each d n f xs) n (f n (get_or xs n d))) k e ≡ f k (get_or xs k d)
    here same =
        let room : n < length (each d n f xs) = omega (arith, length_each d n f xs) in
        rw same (get_or-set_same (each d n f xs) n (f n (get_or xs n d)) e room)

-- nothing done to any of them
pub each_still : {X : Type 0} (d : X) (n : ℕ) (f : ℕ → X → X) (xs : List X) → ((i : ℕ) → i < n → f i (get_or xs i d) ≡ get_or xs i d) → each d n f xs ≡ xs
unfolding each
each_still d zero f xs h = refl
each_still d (suc n) f xs h =
    ap (λ ys. set ys n (f n (get_or xs n d))) (each_still d n f xs (λ i l. h i (omega arith))) ∙ ap (set xs n) (h n (omega arith)) ∙ set-get_or xs n d

pub each_same : {X : Type 0} (d : X) (n : ℕ) (f g : ℕ → X → X) (xs : List X) → ((i : ℕ) → i < n → (x : X) → f i x ≡ g i x) → each d n f xs ≡ each d n g xs
unfolding each
each_same d zero f g xs h = refl
each_same d (suc n) f g xs h =
    ap (λ ys. set ys n (f n (get_or xs n d))) (each_same d n f g xs (λ i l. h i (omega arith)))
    ∙ ap (set (each d n g xs) n) (h n (omega arith) (get_or xs n d))

-- a list made from a function of the index
pub counted_same : {X : Type 0} (f g : ℕ → X) (a n : ℕ) → ((i : ℕ) → a ≤ i → i < a + n → f i ≡ g i) → map f (range_with_len a n) ≡ map g (range_with_len a n)
counted_same f g a zero h = refl
counted_same {X} f g a (suc n) h =
    ap (λ (y : X). y ∷ map f (range_with_len (a + 1) n)) (h a (omega arith) (omega arith))
    ∙ ap (λ ys. g a ∷ ys) (counted_same f g (a + 1) n (λ i l m. h i (omega arith) (omega arith)))

-- a list that shows each of the first elements as it is to be
pub each_made : {X : Type 0} (d : X) (n : ℕ) (f : ℕ → X → X) (xs ys : List X) → n ≤ length xs → n ≤ length ys
    → ((i : ℕ) → i < n → get_or ys i d ≡ f i (get_or xs i d)) → take n ys ≡ each d n f (take n xs)
each_made d n f xs ys few more same = ext_get_or d _ _ (size ∙ sym (length_each d n f (take n xs) ∙ length-take-le n xs few)) one
  where
    size : length (take n ys) ≡ n
    size = length-take-le n ys more

    one : (i : ℕ) → i < length (take n ys) → get_or (take n ys) i d ≡ get_or (each d n f (take n xs)) i d
    one i l =
        let below : i < n = omega (arith, l, size) in
        get_or-take n ys i d below
        ∙ (same i below
        ∙ sym (each_at d n f (take n xs) i d below (omega (arith, length-take-le n xs few, below)) ∙ ap (f i) (get_or-take n xs i d below)))
