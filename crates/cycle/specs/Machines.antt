-- Machines whose rules repeat, and the states that they run through. Assumes nothing.
--     Machine S             what each tick does to a state of the type S, and from when on and with what period the ticks repeat
--     state m t             the state of m at instant t, before tick t
--     sample m k            the state that is looked at k periods after the rules have begun to repeat
use Rattle.std.specs.Prelude.{◌≡◌, ℕ, zero, suc, ◌+◌, ◌*◌, ◌<◌, ◌≤◌}

-- For a plan, `from` is the greatest offset and `period` is the hyperperiod.
pub record Machine (S : Type 0) : Type 0 where
  -- what tick t makes of a state
  pub step : ℕ → S → S
  -- the state at instant 0
  pub start : S
  pub from : ℕ
  pub period : ℕ
  pub positive : 0 < period
  -- from `from` on, a tick does what the tick one period later does
  pub repeats : (t : ℕ) (s : S) → from ≤ t → step (t + period) s ≡ step t s

-- One tick after another.
abbrev pub state : {S : Type 0} → Machine S → ℕ → S
state m zero = m.start
state m (suc t) = m.step t (state m t)

-- Sample 0 is the state at `from`.
abbrev pub sample : {S : Type 0} → Machine S → ℕ → S
sample m k = state m (m.from + k * m.period)
