-- What is proved of samples, of their comparison and of lateness. Assumes nothing.
--     EqualFutures S        equal samples have equal futures
--     ComparedRight         compared_with gives the sample that a sample has to be compared with
--     Among m V             the samples of m are no more than V different states
--     FoundBy m n           one of the samples 1 to n equals the sample that it is compared with
--     FoundSoon S           the comparison comes to an answer
--     Late S                a test for lateness at an instant and a state
--     LateRepeats m late    lateness repeats with the rules
--     OnTimeTo m late n     nothing is late up to and including instant n
--     NeverLate S           equal samples prove that nothing is ever late, where lateness repeats
use Rattle.std.specs.Prelude.{◌≡◌, ℕ, ◌+◌, ◌*◌, ◌<◌, ◌≤◌, Bool, T, List, length}
use mathlib.Core.List.{Memᴰ}
use Rattle.cycle.specs.Comparisons.{compared_with, IsCompared}
use Rattle.cycle.specs.Machines.{Machine, state, sample}

-- If sample i equals sample j, then the states x instants after them are equal for every x, and so are the samples n samples after them.
abbrev pub EqualFutures : Type 0 → Type 0
EqualFutures S =
    (m : Machine S) (i j : ℕ) → sample m i ≡ sample m j
    → ((x : ℕ) → state m (m.from + i * m.period + x) ≡ state m (m.from + j * m.period + x))
    × ((n : ℕ) → sample m (i + n) ≡ sample m (j + n))

-- Sample 1 is compared with sample 0, every later one with the sample of the greatest power of two below its number.
abbrev pub ComparedRight : Type 0
ComparedRight = (k : ℕ) → 1 ≤ k → IsCompared k (compared_with k)

-- A list of at most V states has every sample.
pub record Among {S : Type 0} (m : Machine S) (V : ℕ) : Type 0 where
  pub states : List S
  pub few : length states ≤ V
  pub all : (k : ℕ) → Memᴰ (sample m k) states

-- The one that is found, by its number.
pub record FoundBy {S : Type 0} (m : Machine S) (n : ℕ) : Type 0 where
  pub number : ℕ
  pub positive : 1 ≤ number
  pub soon : number ≤ n
  pub equal : sample m number ≡ sample m (compared_with number)

-- If the samples are no more than V different states, then for some k from 1 to 3 × V sample k equals the sample that it is compared with.
abbrev pub FoundSoon : Type 0 → Type 0
FoundSoon S = (m : Machine S) (V : ℕ) → Among m V → FoundBy m (3 * V)

-- True where something is late at the instant, if the state is the one before its tick.
abbrev pub Late : Type 0 → Type 0
Late S = ℕ → S → Bool

-- After `from`, what is late one period later is late already.
abbrev pub LateRepeats : {S : Type 0} → Machine S → Late S → Type 0
LateRepeats {S} m late = (t : ℕ) (s : S) → m.from < t → T (late (t + m.period) s) → T (late t s)

-- In the states that m runs through.
abbrev pub OnTimeTo : {S : Type 0} → Machine S → Late S → ℕ → Type 0
OnTimeTo m late n = (t : ℕ) → t ≤ n → T (late t (state m t)) → ⊥

-- Where lateness repeats: if sample k equals an earlier sample, and nothing is late up to and including the instant of sample k, then nothing is ever late.
abbrev pub NeverLate : Type 0 → Type 0
NeverLate S =
    (m : Machine S) (late : Late S) → LateRepeats m late
    → (i k : ℕ) → i < k → sample m k ≡ sample m i → OnTimeTo m late (m.from + k * m.period)
    → (t : ℕ) → T (late t (state m t)) → ⊥
