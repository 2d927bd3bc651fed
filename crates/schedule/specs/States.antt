-- What the schedule is at an instant. Assumes nothing.
--     Setting                        what the schedule depends on: the tasks, the policy's rule, the model's profile, the hyperperiod
--     setting_of p rule profile      the plan p under a policy's rule and a delay model's profile
--     task_of c i                    task i
--     State                          the slots of the tasks, the marks of the delay model, and the running task or none
--     Moment                         a state, with each task's next job and the delay of its live one
--     slot_of s i                    the slot of task i
--     next_of x i                    the number of the next job of task i
--     start_state                    the state at instant 0
--     start_moment                   the moment at instant 0
use Rattle.std.specs.Prelude.{ℕ, List, replicate, None, slice_index, slice_index_or}
use Rattle.delay.specs.Marks.{zero_mark}
use Rattle.delay.specs.Profiles.{Profile}
use Rattle.dispatch.specs.Rules.{Rule}
use Rattle.plan.specs.Plans.{tasks_in}
use Rattle.plan.specs.Tasks.{zero_task}
use Rattle.plan.specs.declared.admitted.Plan.{Plan}
use Rattle.plan.specs.declared.tasks.Task.{Task}
use Rattle.schedule.specs.Jobs.{vacant}
use Rattle.schedule.specs.declared.slots.Slot.{Slot}
use Rattle.schedule.specs.declared.states.State as states

-- Nothing else has a say in what happens.
pub record Setting : Type 0 where
  pub tasks : List Task
  pub rule : Rule
  pub profile : Profile
  pub hyperperiod : ℕ

-- Of the plan, only its tasks and their hyperperiod.
abbrev pub setting_of : Plan → Rule → Profile → Setting
setting_of p rule profile = record { tasks = tasks_in p; rule = rule; profile = profile; hyperperiod = p.hyperperiod.ticks }

-- By its number, counted from 0.
abbrev pub task_of : Setting → ℕ → Task
task_of c i = slice_index_or c.tasks i zero_task

-- 16 slots and 16 marks, by task number; those past the last task stay as they are at instant 0.
abbrev pub State : Type 0
State = states.State

-- The numbers of jobs and their delays are no part of a state: no tick looks at a delay, and the numbers depend on the instant alone.
pub record Moment : Type 0 where
  pub state : State
  -- of each task, the number of the job that is released next
  pub next : List ℕ
  -- of each task, the delay answered so far to the job released last
  pub delays : List ℕ

abbrev pub slot_of : State → ℕ → Slot
slot_of s i = slice_index_or s.slots i vacant

abbrev pub next_of : Moment → ℕ → ℕ
next_of x i = slice_index x.next i

-- No job is live, all marks are zero, and no task is running.
abbrev pub start_state : State
start_state = record { slots = replicate 16 vacant; marks = replicate 16 zero_mark; running = None }

-- Job 0 of each task comes next.
abbrev pub start_moment : Moment
start_moment = record { state = start_state; next = replicate 16 0; delays = replicate 16 0 }
