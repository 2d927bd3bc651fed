-- Why a finite run can speak for all time: from the greatest offset on, the ticks repeat with the hyperperiod. Assumes nothing.
--     next_at c t            of each task, the number of the job that is released next, at instant t; by the instant alone
--     placed c t s           the state s, put at instant t
--     Doing                  what a tick does: its choice, whether it is a switch, the delay answered, whether a job finishes, the state after it
--     doing c t s            what tick t does to the state s
--     Repetition c           what is proved of the schedule of c
use Rattle.std.specs.Prelude.{◌≡◌, ℕ, zero, suc, ◌+◌, ◌*◌, ◌<◌, ◌≤◌, Bool, false, not, List, length, replicate, Some, None, Option}
use Rattle.schedule.specs.Each.{each}
use Rattle.schedule.specs.Jobs.{counted}
use Rattle.schedule.specs.Rows.{finishes}
use Rattle.schedule.specs.Schedules.{NeverLate, OnTimeTo, from, moment, sample, state_at}
use Rattle.schedule.specs.States.{Moment, Setting, State, task_of}
use Rattle.schedule.specs.Ticks.{chosen, delay_to, is_running, released, served}

-- Each task counts its own releases; what is chosen, served or finished has no part in it.
unfoldable pub next_at : Setting → ℕ → List ℕ
next_at c zero = replicate 16 0
next_at c (suc t) = each 0 (length c.tasks) (λ i n. counted t (task_of c i) n) (next_at c t)

-- No tick looks at the delays, so zeros do for them.
abbrev pub placed : Setting → ℕ → State → Moment
placed c t s = record { state = s; next = next_at c t; delays = replicate 16 0 }

pub record Doing : Type 0 where
  pub choice : Option ℕ
  pub switches : Bool
  pub delay : ℕ
  pub finishing : Bool
  pub after : State

-- Where the choice is o and s is the state after the releases.
abbrev pub doing_of : Setting → State → Option ℕ → Doing
doing_of c s None = record { choice = None; switches = false; delay = 0; finishing = false; after = served c None s }
doing_of c s (Some j) = record {
  choice = Some j;
  switches = not (is_running s j);
  delay = delay_to c j s;
  finishing = finishes c j s;
  after = served c (Some j) s;
}

unfoldable pub doing : Setting → ℕ → State → Doing
doing c t s =
    let r = released c t (placed c t s) in
    doing_of c r.state (chosen c t r)

pub record Repetition (c : Setting) : Type 0 where
  -- the numbers of the next jobs depend on the instant alone
  pub numbers : (t : ℕ) → (moment c t).next ≡ next_at c t
  -- the schedule goes from one instant to the next by what the tick does to its state
  pub onward : (t : ℕ) → state_at c (suc t) ≡ (doing c t (state_at c t)).after
  -- from the greatest offset on, the tick one hyperperiod later does the same to the same state
  pub same : (t : ℕ) (s : State) → from c ≤ t → doing c (t + c.hyperperiod) s ≡ doing c t s
  -- two equal samples are followed by equal states for ever
  pub futures : (i j : ℕ) → sample c i ≡ sample c j
      → (x : ℕ) → state_at c (from c + i * c.hyperperiod + x) ≡ state_at c (from c + j * c.hyperperiod + x)
  -- where sample k equals an earlier one and nothing is late up to its instant, nothing is ever late
  pub never : (i k : ℕ) → i < k → sample c k ≡ sample c i → OnTimeTo c (from c + k * c.hyperperiod) → NeverLate c
