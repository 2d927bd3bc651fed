-- Why the comparison of samples comes to an answer. Assumes nothing.
--     FewStates c V         the samples of the schedule are no more than V different states
--     FoundBy c n           one of the samples 1 to n equals the sample that it is compared with
--     Bound c               what is proved of the schedule of c
use Rattle.std.specs.Prelude.{◌≡◌, ℕ, ◌*◌, ◌≤◌, List, length}
use mathlib.Core.List.{Memᴰ}
use Rattle.cycle.specs.Comparisons.{IsCompared}
use Rattle.schedule.specs.Schedules.{sample}
use Rattle.schedule.specs.States.{Setting, State}

-- A list of at most V states has every sample.
pub record FewStates (c : Setting) (V : ℕ) : Type 0 where
  pub states : List State
  pub few : length states ≤ V
  pub all : (k : ℕ) → Memᴰ (sample c k) states

-- Sample 1 is compared with sample 0, and every later one with that of the greatest power of two below its number.
pub record FoundBy (c : Setting) (n : ℕ) : Type 0 where
  pub number : ℕ
  pub other : ℕ
  pub positive : 1 ≤ number
  pub soon : number ≤ n
  pub compared : IsCompared number other
  pub equal : sample c number ≡ sample c other

-- Whether or not a job is late; where none ever is, the samples are the schedule's own.
abbrev pub Bound : Setting → Type 0
Bound c = (V : ℕ) → FewStates c V → FoundBy c (3 * V)
