-- Of n + 1 numbers below n, two are equal.
use Rattle.std.proofs.Common.{◌≡◌, ℕ, zero, suc, ◌-◌, ◌<◌, ◌≤◌, min, ◌⊎◌, sym, ap, ◌∙◌, inl, inr, arith}
use native.Mathlib.Decide.{ℕ_discrete}

-- Two of f 0 to f n are equal.
pub record Twice (f : ℕ → ℕ) (n : ℕ) : Type 0 where
  pub first : ℕ
  pub second : ℕ
  pub ordered : first < second
  pub within : second ≤ n
  pub equal : f first ≡ f second

-- One of f 0 to f (n − 1) is v.
record Hit (f : ℕ → ℕ) (v n : ℕ) : Type 0 where
  place : ℕ
  before : place < n
  hits : f place ≡ v

-- looked for from above
hit_or_not : (f : ℕ → ℕ) (v n : ℕ) → Hit f v n ⊎ ((i : ℕ) → i < n → f i ≡ v → ⊥)
hit_or_not f v zero = inr (λ i h _. omega arith)
hit_or_not f v (suc n) = go (ℕ_discrete (f n) v) (hit_or_not f v n)
  where
    missed : ((i : ℕ) → i < n → f i ≡ v → ⊥) → (f n ≡ v → ⊥) → (i : ℕ) → Dec (i ≡ n) → i < suc n → f i ≡ v → ⊥
    missed others last i (yes q) h e = last (ap f (sym q) ∙ e)
    missed others last i (no q) h e = others i (omega arith) e

    go : Dec (f n ≡ v) → Hit f v n ⊎ ((i : ℕ) → i < n → f i ≡ v → ⊥) → Hit f v (suc n) ⊎ ((i : ℕ) → i < suc n → f i ≡ v → ⊥)
    go (yes e) _ = inl (record { place = n; before = omega arith; hits = e })
    go (no e) (inl h) = inl (record { place = h.place; before = omega arith; hits = h.hits })
    go (no e) (inr h) = inr (λ i b q. missed h e i (ℕ_discrete i n) b q)

-- The numbers but v, closed up.
abbrev without : ℕ → ℕ → ℕ
without v x = x - min 1 (x - v)

without_below : (v x n : ℕ) → (x ≡ v → ⊥) → v < suc n → x < suc n → without v x < n
without_below v x n a h b = omega arith

without_apart : (v x y : ℕ) → (x ≡ v → ⊥) → (y ≡ v → ⊥) → without v x ≡ without v y → x ≡ y
without_apart v x y a b e = omega arith

-- either the last number is there before, or the others fit without it
pub pigeonhole : (n : ℕ) (f : ℕ → ℕ) → ((i : ℕ) → i ≤ n → f i < n) → Twice f n
pigeonhole zero f small = absurd (let z : f 0 < 0 = small 0 (omega arith) in omega arith)
pigeonhole (suc n) f small = go (hit_or_not f (f (suc n)) (suc n)) (pigeonhole n (λ i. without (f (suc n)) (f i)))
  where
    go : Hit f (f (suc n)) (suc n) ⊎ ((i : ℕ) → i < suc n → f i ≡ f (suc n) → ⊥)
        → (((i : ℕ) → i ≤ n → without (f (suc n)) (f i) < n) → Twice (λ i. without (f (suc n)) (f i)) n)
        → Twice f (suc n)
    go (inl h) fewer = record { first = h.place; second = suc n; ordered = h.before; within = omega arith; equal = h.hits }
    go (inr apart) fewer =
        let t = fewer (λ i b. without_below (f (suc n)) (f i) n (apart i (omega arith)) (small (suc n) (omega arith)) (small i (omega arith))) in
        record {
          first = t.first;
          second = t.second;
          ordered = t.ordered;
          within = omega arith;
          equal = without_apart (f (suc n)) (f t.first) (f t.second) (apart t.first (omega arith)) (apart t.second (omega arith)) t.equal;
        }
