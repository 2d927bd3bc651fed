-- What a job gets of the core, over the whole schedule. Assumes nothing.
--     on_core c t           the task that has the core in tick t, or none
--     job_in c t i          the number of task i's live job in tick t
--     serves c t i m        tick t serves job m of task i
--     delay_in c t i m      the delay that tick t answers to job m of task i
--     releases_in c t i m   job m of task i is released in tick t
--     sum_below n f         the sum of f over the numbers below n
--     ServedWhole c t row   what the job row of tick t says of the ticks before it
--     SwitchTo c t i m      tick t is a switch to job m of task i
--     Service c             what is proved of the schedule of c
--     core_ticks ts row     how many ticks of the core the job of a row has had, where ts are the tasks of the plan
use Rattle.std.specs.Prelude.{◌≡◌, ℕ, zero, suc, ◌+◌, ◌^◌, ◌<◌, ◌≤◌, Bool, true, false, cond, ◌&&◌, List, length, Some, None, Decides, Option, ◌==◌, ◌≢◌, nat_lt, slice_index_or}
use Rattle.delay.specs.Lines.{count_below}
use Rattle.plan.specs.Tasks.{zero_task}
use Rattle.plan.specs.declared.tasks.Task.{Task}
use Rattle.schedule.specs.Jobs.{due, live_job, release}
use Rattle.schedule.specs.Rows.{job_row, switch_row}
use Rattle.schedule.specs.Schedules.{OnTimeTo, moment, state_at}
use Rattle.schedule.specs.States.{Setting, next_of, slot_of, task_of}
use Rattle.schedule.specs.Ticks.{chosen, released, runs}
use Rattle.schedule.specs.declared.rows.JobRow.{JobRow}
use Rattle.schedule.specs.declared.rows.SwitchRow.{SwitchRow}

abbrev pub on_core : Setting → ℕ → Option ℕ
on_core c t = chosen c t (released c t (moment c t))

abbrev pub job_in : Setting → ℕ → ℕ → ℕ
job_in c t i = live_job (next_of (released c t (moment c t)) i)

-- A tick serves the live job of the task that has the core, with reload or with work.
unfoldable pub serves : Setting → ℕ → ℕ → ℕ → Bool
serves c t i m = runs (on_core c t) i && job_in c t i == m

abbrev pub delay_for : Option SwitchRow → ℕ → ℕ → ℕ
delay_for None i m = 0
delay_for (Some r) i m = cond (r.task == i && r.job == m) r.delay 0

-- By the switch row of the tick.
unfoldable pub delay_in : Setting → ℕ → ℕ → ℕ → ℕ
delay_in c t i m = delay_for (switch_row c t (moment c t)) i m

-- Job m is the next one of the task, and it is due.
unfoldable pub releases_in : Setting → ℕ → ℕ → ℕ → Bool
releases_in c t i m = nat_lt i (length c.tasks) && (due t (task_of c i) (next_of (moment c t) i) && next_of (moment c t) i == m)

unfoldable pub sum_below : ℕ → (ℕ → ℕ) → ℕ
sum_below zero f = 0
sum_below (suc n) f = sum_below n f + f n

pub record ServedWhole (c : Setting) (t : ℕ) (row : JobRow) : Type 0 where
  pub known : row.task < length c.tasks
  pub released : row.release ≡ release (task_of c row.task) row.job
  pub finished : row.finish ≡ t + 1
  -- the ticks that serve the job lie between its release and its finish
  pub within : (u : ℕ) → serves c u row.task row.job ≡ true → (row.release ≤ u) × (u < row.finish)
  -- none of them serves another job
  pub alone : (u i m : ℕ) → serves c u row.task row.job ≡ true → serves c u i m ≡ true → (i ≡ row.task) × (m ≡ row.job)
  -- there are as many as its work and the delay answered to it
  pub ticks : count_below row.finish (λ u. serves c u row.task row.job) ≡ (task_of c row.task).work + row.delay
  -- that delay is what the switches to the job were answered, all together
  pub delays : sum_below row.finish (λ u. delay_in c u row.task row.job) ≡ row.delay

pub record SwitchTo (c : Setting) (t i m : ℕ) : Type 0 where
  pub row : SwitchRow
  pub written : switch_row c t (moment c t) ≡ Some row
  pub task : row.task ≡ i
  pub job : row.job ≡ m

pub record Service (c : Setting) : Type 0 where
  -- of every finished job
  pub served : (t : ℕ) (row : JobRow) → job_row c t (moment c t) ≡ Some row → ServedWhole c t row
  -- while nothing is late, a job finishes by its deadline
  pub in_time : (t : ℕ) (row : JobRow) → OnTimeTo c t → job_row c t (moment c t) ≡ Some row
      → row.finish ≤ row.release + (task_of c row.task).deadline
  -- job m of a task is released in one tick, and in no other
  pub releases : (t i m : ℕ) → i < length c.tasks → Decides (releases_in c t i m) (t ≡ release (task_of c i) m)
  -- the releases of a task are one period apart
  pub apart : (t u i m : ℕ) → releases_in c t i m ≡ true → releases_in c u i (m + 1) ≡ true → u ≡ t + (task_of c i).period
  -- while nothing is late, a release finds no live job of its task
  pub vacated : (t i m : ℕ) → OnTimeTo c t → releases_in c t i m ≡ true → (slot_of (state_at c t) i).live ≡ false
  -- a job that has the core and does not finish loses it to another only at a switch
  pub displaced : (t i m j n : ℕ) → serves c t i m ≡ true → job_row c t (moment c t) ≡ None
      → serves c (suc t) j n ≡ true → (j ≢ i) → SwitchTo c (suc t) j n

-- What fits 64 bits can be told, and nothing else.
abbrev pub fitting : ℕ → Option ℕ
fitting n = cond (nat_lt n (2 ^ 64)) (Some n) None

-- Its work and the delay answered to it; none where there is no such task.
abbrev pub core_ticks : List Task → JobRow → Option ℕ
core_ticks ts row = cond (nat_lt row.task (length ts)) (fitting ((slice_index_or ts row.task zero_task).work + row.delay)) None
