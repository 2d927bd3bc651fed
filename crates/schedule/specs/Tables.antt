-- What the contracts of the code cite, besides the definitions of the schedule. Assumes nothing.
--     unruled ts p                 the tasks ts under the profile p, for steps that ask no policy
--     timed ts                     the tasks ts alone, for steps that ask neither policy nor model
--     task_in k i                  task i of a calendar's plan
--     next_in k                    the numbers of the next jobs in a calendar
--     next_at k i                  that of task i
--     state_of b ms                the state of a table of jobs and the marks of a model
--     plan_of b                    the plan of a schedule
--     tasks_of b                   its tasks
--     clock_of b                   the instant that it has reached
--     moment_of b ms               the moment of a schedule and the marks of a model
--     switch_delay c j s           the delay of the switch to task j, or none
--     row_of_switch t j m o        the row of a switch to job m of task j at instant t, where o is the delay or none
--     row_of_job j m r f o         the row of job m of task j, released at instant r and finished at f, where o is its delay or none
--     TaskReleased c t i x y       the release of task i alone at instant t leads from the moment x to the moment y
--     Passed c t o x y rows        steps 3 to 5 at instant t lead from the moment x to the moment y where the choice is o, and write these rows
--     Ticked c t x y rows          tick t leads from the moment x to the moment y and writes these rows
use Rattle.std.specs.Prelude.{◌≡◌, ℕ, cond, List, map, Some, None, Option, slice_index, slice_index_or, slice_set}
use Rattle.delay.specs.Models.{no_delay}
use Rattle.delay.specs.Profiles.{Profile}
use Rattle.delay.specs.declared.mark.Mark.{Mark}
use Rattle.plan.specs.Plans.{tasks_in}
use Rattle.plan.specs.Tasks.{zero_task}
use Rattle.plan.specs.declared.admitted.Plan.{Plan}
use Rattle.plan.specs.declared.tasks.Task.{Task}
use Rattle.schedule.specs.JobTables.{delays_in, slots_in}
use Rattle.schedule.specs.Jobs.{counted, due, entered}
use Rattle.schedule.specs.Rows.{job_row, job_row_of, switch_row, switch_row_of}
use Rattle.schedule.specs.States.{Moment, Setting, State, next_of, slot_of, task_of}
use Rattle.schedule.specs.Ticks.{charged, delay_to, is_running, served, tick}
use Rattle.schedule.specs.declared.calendar.Calendar.{Calendar}
use Rattle.schedule.specs.declared.calendar.next_job.NextJob.{NextJob}
use Rattle.schedule.specs.declared.jobs.JobTable.{JobTable}
use Rattle.schedule.specs.declared.rows.JobRow.{JobRow}
use Rattle.schedule.specs.declared.rows.SwitchRow.{SwitchRow}
use Rattle.schedule.specs.declared.rows.TickRows.{TickRows}
use Rattle.schedule.specs.declared.ticking.Schedule.{Schedule}

-- From the switch on, a tick looks at nothing else: any rule and any hyperperiod would do.
abbrev pub unruled : List Task → Profile → Setting
unruled ts p = record { tasks = ts; rule = λ _ _. None; profile = p; hyperperiod = 0 }

-- Releases and rows look at nothing but the tasks: any profile would do, too.
abbrev pub timed : List Task → Setting
timed ts = unruled ts no_delay

-- By its number, counted from 0.
abbrev pub task_in : Calendar → ℕ → Task
task_in k i = slice_index_or (tasks_in k.plan) i zero_task

-- Of all 16 places, by task number.
abbrev pub next_in : Calendar → List ℕ
next_in k = map (λ (j : NextJob). j.number) k.jobs

-- One of these.
abbrev pub next_at : Calendar → ℕ → ℕ
next_at k i = slice_index (next_in k) i

-- The marks are the model's own.
abbrev pub state_of : JobTable → List Mark → State
state_of b ms = record { slots = slots_in b; marks = ms; running = b.running }

-- No tick changes it.
abbrev pub plan_of : Schedule → Plan
plan_of b = b.calendar.plan

-- In the order of the plan.
abbrev pub tasks_of : Schedule → List Task
tasks_of b = tasks_in (plan_of b)

-- The releases and the tick of that instant are still to come.
abbrev pub clock_of : Schedule → ℕ
clock_of b = b.calendar.clock

-- The instant is the schedule's clock.
abbrev pub moment_of : Schedule → List Mark → Moment
moment_of b ms = record { state = state_of b.jobs ms; next = next_in b.calendar; delays = delays_in b.jobs }

-- Where the task goes on running, there is no switch.
abbrev pub switch_delay : Setting → ℕ → State → Option ℕ
switch_delay c j s = cond {A = Option ℕ} (is_running s j) None (Some (delay_to c j s))

-- Where there is no switch, no delay is told.
abbrev pub row_of_switch : ℕ → ℕ → ℕ → Option ℕ → Option SwitchRow
row_of_switch t j m None = None
row_of_switch t j m (Some d) = Some (record { instant = t; task = j; job = m; delay = d })

-- Where no job has finished, none is.
abbrev pub row_of_job : ℕ → ℕ → ℕ → ℕ → Option ℕ → Option JobRow
row_of_job j m r f None = None
row_of_job j m r f (Some d) = Some (record { task = j; job = m; release = r; finish = f; delay = d })

-- Where its next job is not due, nothing changes.
pub record TaskReleased (c : Setting) (t i : ℕ) (x y : Moment) : Type 0 where
  pub slots : y.state.slots ≡ slice_set x.state.slots i (entered t (task_of c i) (next_of x i) (slot_of x.state i))
  pub next : y.next ≡ slice_set x.next i (counted t (task_of c i) (next_of x i))
  pub delays : y.delays ≡ slice_set x.delays i (cond (due t (task_of c i) (next_of x i)) 0 (slice_index x.delays i))
  pub marks : y.state.marks ≡ x.state.marks
  pub running : y.state.running ≡ x.state.running

-- The moment x is the one after the releases.
pub record Passed (c : Setting) (t : ℕ) (o : Option ℕ) (x y : Moment) (rows : TickRows) : Type 0 where
  pub state : y.state ≡ served c o x.state
  pub next : y.next ≡ x.next
  pub delays : y.delays ≡ charged c o x
  pub switch : rows.switch ≡ switch_row_of c t x o
  pub job : rows.job ≡ job_row_of c t x o

-- All five steps.
pub record Ticked (c : Setting) (t : ℕ) (x y : Moment) (rows : TickRows) : Type 0 where
  pub after : y ≡ tick c t x
  pub switch : rows.switch ≡ switch_row c t x
  pub job : rows.job ≡ job_row c t x
