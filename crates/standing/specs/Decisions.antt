-- What a standing says of the schedule without end. Assumes nothing.
--     Repeated c t k p      at instant t sample k is taken, and equals sample p, with which it is compared
--     Decision c t s        what the standing s at instant t says of the schedule of c
use Rattle.std.specs.Prelude.{◌≡◌, ◌↔◌, ℕ, ◌+◌, ◌*◌, ◌≤◌, ◌≢◌}
use Rattle.cycle.specs.Comparisons.{IsCompared}
use Rattle.laws.specs.Bound.{FewStates}
use Rattle.schedule.specs.Schedules.{FirstLate, NeverLate, from, sample}
use Rattle.schedule.specs.States.{Setting}
use Rattle.standing.specs.declared.standings.Standing.{Standing}
use Rattle.standing.specs.declared.standings.Standing.TheVariants.{Open, Misses, Holds}

pub record Repeated (c : Setting) (t k p : ℕ) : Type 0 where
  pub positive : 1 ≤ k
  pub taken : t ≡ from c + k * c.hyperperiod
  pub compared : IsCompared k p
  pub equal : sample c k ≡ sample c p

pub record Decision (c : Setting) (t : ℕ) (s : Standing) : Type 0 where
  -- it is MISSES exactly where the first late job is late at an instant up to t, and names that instant, that task and that job
  pub first_late : (u i m : ℕ) → (s ≡ Misses u i m) ↔ (FirstLate c u i m × (u ≤ t))
  -- it is HOLDS only where no job is ever late, at any instant whatever
  pub never_late : (u k p : ℕ) → s ≡ Holds u k p → NeverLate c
  -- what it names then is a sample that equals the one that it is compared with, at an instant up to t
  pub repeated : (u k p : ℕ) → s ≡ Holds u k p → Repeated c u k p × (u ≤ t)
  -- where no job is ever late and the samples show at most V different states, it is not OPEN from the greatest offset and 3 × V hyperperiods on
  pub decides : (V : ℕ) → NeverLate c → FewStates c V → from c + 3 * V * c.hyperperiod ≤ t → s ≢ Open
