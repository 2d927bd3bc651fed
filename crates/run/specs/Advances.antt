-- What an advance does. Assumes nothing.
--     Asking                what an advance is asked for: the ticks, and the free rows of both logs
--     asking n l m          n ticks, with the job log l and the switch log m
--     refusal n s           why n ticks are refused to a run that shows s, or none
--     stop_of o d j s       the first reason to stop, or none
--     stop_after c t q u    why an advance from clock t, asked for q, stops after u ticks, or none where it goes on
--     Went c q x y a        it led from what was shown at x to y, and answers a
--     Answered c q x y r    it did, or it was refused
--     ticks_in r            the ticks that it answers; none where it is refused
use Rattle.std.specs.Prelude.{◌≡◌, ℕ, ◌+◌, ◌-◌, ◌<◌, Bool, cond, not, length, Some, None, Ok, Err, Option, Result, MatchResult, ◌==◌, nat_le, nat_lt}
use Rattle.fault.specs.declared.Cause.{Cause}
use Rattle.fault.specs.declared.Cause.TheVariants.{AdvanceTooLong, PastLastInstant, RunClosed}
use Rattle.fault.specs.declared.Fault.{Fault}
use Rattle.fault.specs.declared.Layer as layers
use Rattle.row_log.specs.Entries.{entries, room}
use Rattle.row_log.specs.declared.journal.Log.{Log}
use Rattle.run.specs.Runs.{Shown, shown_at}
use Rattle.run.specs.Written.{job_in, switch_in, written}
use Rattle.run.specs.declared.advances.Advance.{Advance}
use Rattle.run.specs.declared.advances.Stop.{Stop}
use Rattle.run.specs.declared.advances.Stop.TheVariants.{Closed, CountReached, JobLogFull, SwitchLogFull}
use Rattle.schedule.specs.States.{Setting}
use Rattle.schedule.specs.declared.rows.JobRow.{JobRow}
use Rattle.schedule.specs.declared.rows.SwitchRow.{SwitchRow}
use Rattle.standing.specs.Standings.{is_open, standing_at}

-- Nothing else has a say in how far it goes.
pub record Asking : Type 0 where
  pub ticks : ℕ
  pub job_rows : ℕ
  pub switch_rows : ℕ

-- Rows that are not written yet.
abbrev pub free : {R : Type 0} → Log R → ℕ
free l = room l - length (entries l)

abbrev pub asking : ℕ → Log JobRow → Log SwitchRow → Asking
asking n jobs switches = record { ticks = n; job_rows = free jobs; switch_rows = free switches }

-- It names no row and no bit.
abbrev pub run_fault : Cause → Fault
run_fault cause = record { layer = layers.TheVariants.Run; cause = cause; row = None; bit = None }

-- Too many ticks, then a run that is decided, then ticks past the last instant.
abbrev pub refusal : ℕ → Shown → Option Fault
refusal n s =
    cond (nat_lt 1000000000 n) (Some (run_fault AdvanceTooLong))
    (cond (not (is_open s.standing)) (Some (run_fault RunClosed))
    (cond (nat_lt 1000000000000 (s.clock + n)) (Some (run_fault PastLastInstant)) None))

-- The run is decided, all ticks are done, the job log is full, the switch log is full.
abbrev pub stop_of : Bool → Bool → Bool → Bool → Option Stop
stop_of undecided done jobs_full switches_full =
    cond (not undecided) (Some Closed)
    (cond done (Some CountReached)
    (cond jobs_full (Some JobLogFull)
    (cond switches_full (Some SwitchLogFull) None)))

-- A log is full where the ticks have written as many rows as were free, whether or not the next tick would write one.
abbrev pub stop_after : Setting → ℕ → Asking → ℕ → Option Stop
stop_after c t q u =
    stop_of (is_open (standing_at c (t + u))) (u == q.ticks)
    (nat_le q.job_rows (length (written (job_in c) t u)))
    (nat_le q.switch_rows (length (written (switch_in c) t u)))

-- Each tick that it answers is one of the schedule, and before each of them there was no reason to stop.
pub record Went (c : Setting) (q : Asking) (before after : Shown) (a : Advance) : Type 0 where
  pub led : after ≡ shown_at c (before.clock + a.ticks)
  pub going : (u : ℕ) → u < a.ticks → stop_after c before.clock q u ≡ None
  pub stopped : stop_after c before.clock q a.ticks ≡ Some a.stop

-- A refusal changes nothing.
abbrev pub Answered : Setting → Asking → Shown → Shown → Result Advance Fault → Type 0
Answered c q before after r =
    MatchResult r
    (λ a. (refusal q.ticks before ≡ None) × Went c q before after a)
    (λ f. (refusal q.ticks before ≡ Some f) × (after ≡ before))

abbrev pub ticks_in : Result Advance Fault → ℕ
ticks_in (Ok a) = a.ticks
ticks_in (Err f) = 0
