-- Equal samples have equal futures.
use Rattle.std.proofs.Common.{◌≡◌, ℕ, zero, suc, ◌+◌, ◌*◌, ◌≤◌, sym, ap, ◌∙◌, add-zero, add-suc, arith}
use Rattle.cycle.specs.Machines.{Machine, state, sample}
use Rattle.cycle.specs.Theorems.{EqualFutures}

-- a tick does what the tick n periods later does
pub step_periods : {S : Type 0} (m : Machine S) (n t : ℕ) (s : S) → m.from ≤ t → m.step (t + n * m.period) s ≡ m.step t s
step_periods m zero t s h =
    let e : t + 0 * m.period ≡ t = omega arith in
    ap (λ u. m.step u s) e
step_periods m (suc n) t s h =
    let e : t + suc n * m.period ≡ t + n * m.period + m.period = omega arith in
    ap (λ u. m.step u s) e ∙ (m.repeats (t + n * m.period) s (omega arith) ∙ step_periods m n t s h)

-- the tick x instants after sample i does what the tick x instants after `from` does
step_after : {S : Type 0} (m : Machine S) (i x : ℕ) (s : S) → m.step (m.from + i * m.period + x) s ≡ m.step (m.from + x) s
step_after m i x s =
    let e : m.from + i * m.period + x ≡ m.from + x + i * m.period = omega arith in
    ap (λ u. m.step u s) e ∙ step_periods m i (m.from + x) s (omega arith)

pub states_after : {S : Type 0} (m : Machine S) (i j : ℕ) → sample m i ≡ sample m j
    → (x : ℕ) → state m (m.from + i * m.period + x) ≡ state m (m.from + j * m.period + x)
states_after m i j e zero = simp add-zero e
states_after m i j e (suc x) =
    simp add-suc (step_after m i x _ ∙ (ap (m.step (m.from + x)) (states_after m i j e x) ∙ sym (step_after m j x _)))

sample_after : {S : Type 0} (m : Machine S) (i n : ℕ) → sample m (i + n) ≡ state m (m.from + i * m.period + n * m.period)
sample_after m i n =
    let e : m.from + (i + n) * m.period ≡ m.from + i * m.period + n * m.period = omega arith in
    ap (state m) e

pub samples_after : {S : Type 0} (m : Machine S) (i j : ℕ) → sample m i ≡ sample m j → (n : ℕ) → sample m (i + n) ≡ sample m (j + n)
samples_after m i j e n = sample_after m i n ∙ (states_after m i j e (n * m.period) ∙ sym (sample_after m j n))

pub equal_futures : (S : Type 0) → EqualFutures S
equal_futures S m i j e = (states_after m i j e, samples_after m i j e)
