-- Equal samples prove that nothing is ever late.
use Rattle.std.proofs.Common.{◌≡◌, ℕ, zero, suc, ◌+◌, ◌-◌, ◌*◌, ◌<◌, ◌≤◌, T, ap, ◌∙◌, subst, mul-le-mul_right, arith}
use native.Mathlib.Decide.{dec_le}
use Rattle.cycle.specs.Machines.{Machine, state, sample}
use Rattle.cycle.specs.Theorems.{NeverLate}
use Rattle.cycle.proofs.Futures.{states_after}

-- For any predicate: after `from`, what is late one period later is late already.
abbrev pub Repeats : {S : Type 0} → Machine S → (ℕ → S → Type 0) → Type 0
Repeats {S} m late = (t : ℕ) (s : S) → m.from < t → late (t + m.period) s → late t s

-- what is late n periods later is late already
pub late_periods : {S : Type 0} (m : Machine S) (late : ℕ → S → Type 0) → Repeats m late
    → (n t : ℕ) (s : S) → m.from < t → late (t + n * m.period) s → late t s
late_periods m late r zero t s h l =
    let e : t + 0 * m.period ≡ t = omega arith in
    rw e at l
late_periods m late r (suc n) t s h l =
    let e : t + suc n * m.period ≡ t + n * m.period + m.period = omega arith in
    late_periods m late r n t s h (r (t + n * m.period) s (omega arith) (rw e at l))

-- An instant after sample k, and the one that lies as long after sample i.
record Back {S : Type 0} (m : Machine S) (i k t : ℕ) : Type 0 where
  instant : ℕ
  after : m.from < instant
  earlier : instant < t
  away : t ≡ instant + (k - i) * m.period
  same : state m t ≡ state m instant

back : {S : Type 0} (m : Machine S) (i k t : ℕ) → i < k → sample m k ≡ sample m i → m.from + k * m.period < t → Back m i k t
back m i k t h e o =
    let x : ℕ = t - (m.from + k * m.period) in
    let n : k ≡ i + (k - i) = omega arith in
    let parts : k * m.period ≡ i * m.period + (k - i) * m.period = omega (arith, ap (λ j. j * m.period) n) in
    let there : t ≡ m.from + k * m.period + x = omega arith in
    let one : 1 ≤ k - i = omega arith in
    let some : m.period ≤ (k - i) * m.period = omega (arith, mul-le-mul_right m.period one) in
    record {
      instant = m.from + i * m.period + x;
      after = omega arith;
      earlier = omega (arith, m.positive);
      away = omega arith;
      same = ap (state m) there ∙ states_after m k i e x;
    }

-- by going back as often as it takes
never_below : {S : Type 0} (m : Machine S) (late : ℕ → S → Type 0) → Repeats m late
    → (i k : ℕ) → i < k → sample m k ≡ sample m i → ((t : ℕ) → t ≤ m.from + k * m.period → late t (state m t) → ⊥)
    → (n t : ℕ) → t < n → late t (state m t) → ⊥
never_below m late r i k h e clean zero t b l = absurd (omega arith)
never_below m late r i k h e clean (suc n) t b l = go (dec_le t (m.from + k * m.period)) (never_below m late r i k h e clean n)
  where
    go : Dec (t ≤ m.from + k * m.period) → ((u : ℕ) → u < n → late u (state m u) → ⊥) → ⊥
    go (yes o) before = clean t o l
    go (no o) before =
        let p = back m i k t h e (omega arith) in
        let moved : late (p.instant + (k - i) * m.period) (state m t) = subst (λ u. late u (state m t)) p.away l in
        let still : late p.instant (state m t) = late_periods m late r (k - i) p.instant (state m t) p.after moved in
        before p.instant (omega arith) (subst (late p.instant) p.same still)

pub never : {S : Type 0} (m : Machine S) (late : ℕ → S → Type 0) → Repeats m late
    → (i k : ℕ) → i < k → sample m k ≡ sample m i → ((t : ℕ) → t ≤ m.from + k * m.period → late t (state m t) → ⊥)
    → (t : ℕ) → late t (state m t) → ⊥
never m late r i k h e clean t = never_below m late r i k h e clean (suc t) t (omega arith)

pub never_late : (S : Type 0) → NeverLate S
never_late S m late r = never m (λ t s. T (late t s)) r
