-- The lives of a run, and what is guaranteed in each of them. Assumes nothing.
--     Call                  an advance that a run has known: what it was asked for, what the run showed before, what it answered
--     Life c h x            a run of c that shows x may have known the advances h, the last one first, besides clearings of logs and queries
--     ticks_of h            the ticks that the advances h have answered, all together
--     Refusable n x f       f is the refusal of n ticks that is due where the run shows x
--     Because c q t u s     s is the reason to stop after u ticks from clock t
--     Worked c k            the advance k was refused, or stopped, for a cause
--     Guarantee c h x       what is guaranteed of a run of c that shows x after the advances h
use Rattle.std.specs.Prelude.{◌≡◌, ℕ, ◌+◌, ◌<◌, ◌≤◌, false, List, [], ◌∷◌, length, Result, MatchResult}
use Rattle.std.specs.List.{All}
use Rattle.fault.specs.declared.Cause.TheVariants.{AdvanceTooLong, PastLastInstant, RunClosed}
use Rattle.fault.specs.declared.Fault.{Fault}
use Rattle.run.specs.Advances.{Answered, Asking, run_fault, ticks_in}
use Rattle.run.specs.Runs.{Shown, opening}
use Rattle.run.specs.Truth.{TrueOf}
use Rattle.run.specs.Written.{job_in, switch_in, written}
use Rattle.run.specs.declared.advances.Advance.{Advance}
use Rattle.run.specs.declared.advances.Stop.{Stop}
use Rattle.run.specs.declared.advances.Stop.TheVariants.{Closed, CountReached, JobLogFull, SwitchLogFull}
use Rattle.schedule.specs.States.{Setting}
use Rattle.standing.specs.Standings.{is_open, standing_at}

pub record Call : Type 0 where
  pub asked : Asking
  pub before : Shown
  pub answer : Result Advance Fault

-- It was opened, and has since known only advances, answered or refused, clearings of logs and queries. What each of them makes of
-- what the run shows is what its own contract says; a clearing and a query leave it.
pub data Life (c : Setting) : List Call → Shown → Type 0 where
  opened : {x : Shown} → x ≡ opening c → Life c [] x
  advanced : {h : List Call} {x y : Shown} (q : Asking) (r : Result Advance Fault) → Life c h x → Answered c q x y r
      → Life c (record { asked = q; before = x; answer = r } ∷ h) y
  cleared : {h : List Call} {x y : Shown} → Life c h x → y ≡ x → Life c h y
  queried : {h : List Call} {x y : Shown} → Life c h x → y ≡ x → Life c h y

-- One that was refused answered none.
abbrev pub ticks_of : List Call → ℕ
ticks_of [] = 0
ticks_of (k ∷ h) = ticks_of h + ticks_in k.answer

-- There are no other causes.
pub data Refusable (n : ℕ) (x : Shown) : Fault → Type 0 where
  too_long : 1000000000 < n → Refusable n x (run_fault AdvanceTooLong)
  closed : is_open x.standing ≡ false → Refusable n x (run_fault RunClosed)
  too_far : 1000000000000 < x.clock + n → Refusable n x (run_fault PastLastInstant)

-- It was decided, all ticks were done, or a log had no free row.
abbrev pub Because : Setting → Asking → ℕ → ℕ → Stop → Type 0
Because c q t u Closed = is_open (standing_at c (t + u)) ≡ false
Because c q t u CountReached = u ≡ q.ticks
Because c q t u JobLogFull = q.job_rows ≤ length (written (job_in c) t u)
Because c q t u SwitchLogFull = q.switch_rows ≤ length (written (switch_in c) t u)

abbrev pub Worked : Setting → Call → Type 0
Worked c k = MatchResult k.answer (λ a. Because c k.asked k.before.clock a.ticks a.stop) (λ f. Refusable k.asked.ticks k.before f)

pub record Guarantee (c : Setting) (h : List Call) (x : Shown) : Type 0 where
  -- the clock counts the ticks of the schedule that the advances have answered
  pub ticks : x.clock ≡ ticks_of h
  -- what the run shows is true of its schedule
  pub truth : TrueOf c x
  -- no advance was refused, and none stopped, without a cause
  pub works : All (Worked c) h
