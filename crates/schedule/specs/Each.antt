-- One thing done to each of the first elements of a list. Assumes nothing.
--     each d n f xs         the list xs, with element i as f i makes it, for each i below n; d stands for an element past the end
use Rattle.std.specs.Prelude.{ℕ, zero, suc, List, slice_index_or, slice_set}

-- Element 0 first. No element sees what became of another.
unfoldable pub each : {X : Type 0} → X → ℕ → (ℕ → X → X) → List X → List X
each d zero f xs = xs
each d (suc n) f xs = slice_set (each d n f xs) n (f n (slice_index_or xs n d))
