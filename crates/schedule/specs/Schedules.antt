-- The schedule without end, lateness and samples. Assumes nothing.
--     moment c t            the moment at instant t, before the releases of t
--     state_at c t          the state at instant t
--     row_summaries c t     what the rows of the ticks before t say of each task: of its finished jobs, and of all delay
--     age_in c t x i        the age of the live job of task i at instant t, where x is the moment then
--     aged a y              the summary y, with a response of at least a ticks
--     with_ages c t x ys    the summaries ys, with the ages of the jobs that are live in the moment x
--     summaries c t         the summaries of the tasks at instant t
--     late c t i            the job of task i is late at instant t
--     late_first c t x      of the late jobs at instant t the one that counts, where x is the moment then, or none
--     OnTime c t            no job is late at instant t
--     OnTimeTo c t          no job is late up to and including instant t
--     NeverLate c           no job is late, at any instant whatever
--     FirstLate c t i m     job m of task i is the first late job, at instant t
--     from c                the greatest offset, from which on the releases repeat
--     sample c k            the state at the greatest offset and k hyperperiods
use Rattle.std.specs.Prelude.{◌≡◌, ℕ, zero, suc, ◌+◌, ◌*◌, ◌<◌, ◌≤◌, Bool, true, false, ◌&&◌, max, List, length, replicate, Some, None, Option, nat_lt}
use Rattle.dispatch.specs.Rules.{first_such}
use Rattle.plan.specs.Tasks.{greatest, offsets}
use Rattle.schedule.specs.Each.{each}
use Rattle.schedule.specs.Jobs.{age, late_job, live_job}
use Rattle.schedule.specs.Rows.{no_summary, summarized}
use Rattle.schedule.specs.States.{Moment, Setting, State, next_of, slot_of, start_moment, task_of}
use Rattle.schedule.specs.Ticks.{tick}
use Rattle.schedule.specs.declared.rows.LateJob.{LateJob}
use Rattle.schedule.specs.declared.summaries.Summary.{Summary}

-- One tick after another. The schedule ends with its first late job: what is said of later instants is said only where none is late.
unfoldable pub moment : Setting → ℕ → Moment
moment c zero = start_moment
moment c (suc t) = tick c t (moment c t)

abbrev pub state_at : Setting → ℕ → State
state_at c t = (moment c t).state

-- Of all ticks before t, by their rows alone: a job that has not finished has no response here.
unfoldable pub row_summaries : Setting → ℕ → List Summary
row_summaries c zero = replicate (length c.tasks) no_summary
row_summaries c (suc t) = summarized c t (moment c t) (row_summaries c t)

-- Zero where no job of it is live; a job that is due at t is not released yet.
abbrev pub age_in : Setting → ℕ → Moment → ℕ → ℕ
age_in c t x i = age t (task_of c i) (next_of x i) (slot_of x.state i)

-- A live job responds in its age at least.
abbrev pub aged : ℕ → Summary → Summary
aged a y = record { finished = y.finished; worst = max y.worst a; delay = y.delay }

-- Each task by itself.
abbrev pub with_ages : Setting → ℕ → Moment → List Summary → List Summary
with_ages c t x ys = each no_summary (length c.tasks) (λ i y. aged (age_in c t x i) y) ys

-- Of the rows written before t, and of the jobs that are live at t.
abbrev pub summaries : Setting → ℕ → List Summary
summaries c t = with_ages c t (moment c t) (row_summaries c t)

-- Only a task of the plan can be late.
abbrev pub late_in : Setting → ℕ → Moment → ℕ → Bool
late_in c t x i = nat_lt i (length c.tasks) && late_job t (task_of c i) (next_of x i) (slot_of x.state i)

-- The state at t still has the job as live, and t is its deadline.
abbrev pub late : Setting → ℕ → ℕ → Bool
late c t i = late_in c t (moment c t) i

abbrev pub late_named : Moment → Option ℕ → Option LateJob
late_named x None = None
late_named x (Some i) = Some (record { task = i; job = live_job (next_of x i) })

-- Of several the lowest task number counts.
abbrev pub late_first : Setting → ℕ → Moment → Option LateJob
late_first c t x = late_named x (first_such (length c.tasks) (λ i. late_in c t x i))

abbrev pub OnTime : Setting → ℕ → Type 0
OnTime c t = (i : ℕ) → late c t i ≡ false

abbrev pub OnTimeTo : Setting → ℕ → Type 0
OnTimeTo c t = (u : ℕ) → u ≤ t → OnTime c u

abbrev pub NeverLate : Setting → Type 0
NeverLate c = (t : ℕ) → OnTime c t

-- Of several the lowest task number counts, at the first instant with any.
pub record FirstLate (c : Setting) (t i m : ℕ) : Type 0 where
  pub is_late : late c t i ≡ true
  pub job : m ≡ live_job (next_of (moment c t) i)
  pub lowest : (j : ℕ) → j < i → late c t j ≡ false
  pub before : (u : ℕ) → u < t → OnTime c u

abbrev pub from : Setting → ℕ
from c = greatest (offsets c.tasks)

abbrev pub sample : Setting → ℕ → State
sample c k = state_at c (from c + k * c.hyperperiod)
