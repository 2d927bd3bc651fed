-- One tick of the schedule, step by step. Assumes nothing.
--     released c t x        1. each job due at instant t is released
--     candidates c t x      what the policy is shown then, a row a task
--     chosen c t x          2. the task that the rule names then, or idle
--     loses s i j           task i loses to task j at a switch
--     lost p j n s          the marks after the losses to j of the tasks below n, in ascending order
--     all_lost c j s        the marks after all losses to j
--     answered c j s        the delay that is answered to j when it resumes
--     resumed c j s         j resumes: its job has had the core before
--     began c j s           j begins: its job gets the core for the first time
--     is_running s j        j is the running task
--     switched c j s        3. j gets the core, by a switch where it is not the running task
--     delay_to c j s        the delay that is answered in this step, 0 where there is no resume
--     worked s              the slot s after one tick of reload or of work
--     spent c j s           4. j spends one tick
--     settled j s           5. the job of j finishes, or j is the running task
--     served c o s          steps 3 to 5, where the choice is o
--     charged c o x         the delays of the live jobs, with that of step 3
--     tick c t x            the moment after tick t
use Rattle.std.specs.Prelude.{ℕ, zero, suc, ◌+◌, ◌-◌, Bool, true, false, cond, not, ◌&&◌, List, map, length, Some, None, Option, ◌==◌, nat_lt, slice_index, slice_index_or, slice_set}
use Rattle.std.specs.List.{range_with_len}
use Rattle.delay.specs.Marks.{changed, zero_mark}
use Rattle.delay.specs.Profiles.{Profile}
use Rattle.delay.specs.declared.mark.Mark.{Mark}
use Rattle.dispatch.specs.declared.candidates.Candidate.{Candidate}
use Rattle.schedule.specs.Each.{each}
use Rattle.schedule.specs.Jobs.{counted, due, entered, shown, vacant}
use Rattle.schedule.specs.States.{Moment, Setting, State, next_of, slot_of, task_of}
use Rattle.schedule.specs.declared.slots.Slot.{Slot}

-- Each task by itself: the job takes the slot, the next one is counted, and no delay has been answered to it yet.
abbrev pub released : Setting → ℕ → Moment → Moment
released c t x = record {
  state = record {
    slots = each vacant (length c.tasks) (λ i s. entered t (task_of c i) (next_of x i) s) x.state.slots;
    marks = x.state.marks;
    running = x.state.running;
  };
  next = each 0 (length c.tasks) (λ i n. counted t (task_of c i) n) x.next;
  delays = each 0 (length c.tasks) (λ i d. cond (due t (task_of c i) (next_of x i)) 0 d) x.delays;
}

-- In the order of the task numbers.
abbrev pub candidates : Setting → ℕ → Moment → List Candidate
candidates c t x = map (λ i. shown t (task_of c i) (next_of x i) (slot_of x.state i)) (range_with_len 0 (length c.tasks))

-- The policy sees nothing else than these rows and the running task.
abbrev pub chosen : Setting → ℕ → Moment → Option ℕ
chosen c t x = c.rule (candidates c t x) x.state.running

-- Whoever is live and has begun, but for j itself; not the task that ran last alone.
abbrev pub loses : State → ℕ → ℕ → Bool
loses s i j = not (i == j) && ((slot_of s i).live && (slot_of s i).begun)

-- The losses of the tasks below n are told before that of task n.
unfoldable pub lost : Profile → ℕ → ℕ → State → List Mark
lost p j zero s = s.marks
lost p j (suc i) s = cond (loses s i j) (changed (lost p j i s) i (p.lose i j)) (lost p j i s)

-- All other tasks have lost before j gets the core.
abbrev pub all_lost : Setting → ℕ → State → List Mark
all_lost c j s = lost c.profile j (length c.tasks) s

abbrev pub answered : Setting → ℕ → State → ℕ
answered c j s = c.profile.answer j (slice_index_or (all_lost c j s) j zero_mark)

-- The answer is added to what the job owes.
abbrev pub resumed : Setting → ℕ → State → State
resumed c j s = record {
  slots = slice_set s.slots j (record { live = (slot_of s j).live; left = (slot_of s j).left; owed = (slot_of s j).owed + answered c j s; begun = true });
  marks = changed (all_lost c j s) j (c.profile.resume j);
  running = s.running;
}

-- It has begun from now on, and owes nothing for it.
abbrev pub began : Setting → ℕ → State → State
began c j s = record {
  slots = slice_set s.slots j (record { live = (slot_of s j).live; left = (slot_of s j).left; owed = (slot_of s j).owed; begun = true });
  marks = changed (all_lost c j s) j (c.profile.begin j);
  running = s.running;
}

abbrev pub runs : Option ℕ → ℕ → Bool
runs None j = false
runs (Some r) j = r == j

abbrev pub is_running : State → ℕ → Bool
is_running s j = runs s.running j

-- First the losses, then the resume or the begin of j.
abbrev pub switched : Setting → ℕ → State → State
switched c j s = cond {A = State} (is_running s j) s (cond {A = State} (slot_of s j).begun (resumed c j s) (began c j s))

-- A begin costs nothing.
abbrev pub delay_to : Setting → ℕ → State → ℕ
delay_to c j s = cond (is_running s j) 0 (cond (slot_of s j).begun (answered c j s) 0)

-- A reload tick is paid before a tick of work.
abbrev pub worked : Slot → Slot
worked s = record { live = s.live; left = cond (nat_lt 0 s.owed) s.left (s.left - 1); owed = s.owed - 1; begun = s.begun }

-- The model is told of each tick, whatever it is spent on.
abbrev pub spent : Setting → ℕ → State → State
spent c j s = record {
  slots = slice_set s.slots j (worked (slot_of s j));
  marks = changed s.marks j (c.profile.spend j);
  running = s.running;
}

-- A finished job is no longer live, its mark is zero, and no task is running.
abbrev pub settled : ℕ → State → State
settled j s =
    cond {A = State} ((slot_of s j).left == 0)
    (record { slots = slice_set s.slots j vacant; marks = changed s.marks j (λ _. zero_mark); running = None })
    (record { slots = s.slots; marks = s.marks; running = Some j })

-- Idle makes running none and ends the tick.
abbrev pub served : Setting → Option ℕ → State → State
served c None s = record { slots = s.slots; marks = s.marks; running = None }
served c (Some j) s = settled j (spent c j (switched c j s))

abbrev pub charged : Setting → Option ℕ → Moment → List ℕ
charged c None x = x.delays
charged c (Some j) x = slice_set x.delays j (slice_index x.delays j + delay_to c j x.state)

-- All five steps. A late job ends the schedule before them.
unfoldable pub tick : Setting → ℕ → Moment → Moment
tick c t x =
    let r = released c t x in
    record { state = served c (chosen c t r) r.state; next = r.next; delays = charged c (chosen c t r) r }
