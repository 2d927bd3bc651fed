-- The plans of the worked cases. Assumes nothing.
--     line l                the set of line l alone; a set of several lines is their sum
--     no_line               the empty set
--     task o t d c p a u e  the task with these values, in the order of the fields of a row
--     plan_s a              plan S, where a is the fixed delay of task 1
--     bytes_s               plan S as it is written
--     plan_one, plan_two, plan_nested, plan_next, plan_credit, plan_kept, plan_running      the other plans
use Rattle.std.specs.Prelude.{ℕ, ◌+◌, ◌-◌, ◌^◌, List, [], ◌∷◌}
use Rattle.plan.specs.Admission.{Content}
use Rattle.plan.specs.declared.tasks.Task.{Task}

-- Line 0 is the most significant of 64 bits.
abbrev pub line : ℕ → ℕ
line l = 2 ^ (63 - l)

-- No bit is set.
abbrev pub no_line : ℕ
no_line = 0

-- Offset, period, deadline, work, priority, fixed delay, useful lines, evicting lines.
abbrev pub task : ℕ → ℕ → ℕ → ℕ → ℕ → ℕ → ℕ → ℕ → Task
task o t d c p a u e = record {
  offset = o;
  period = t;
  deadline = d;
  work = c;
  priority = p;
  fixed_delay = a;
  useful = record { lines = u };
  evicting = record { lines = e };
}

-- S itself has the fixed delay 0, S-ALPHA 3.
abbrev pub plan_s : ℕ → Content
plan_s a = record {
  reload = 1;
  tasks =
      task 1 6 6 2 9 0 no_line (line 1 + line 2)
      ∷ task 0 12 12 5 5 a (line 1 + line 2) (line 1 + line 2)
      ∷ [];
}

-- The head in 2 bytes, then each row in 29.
abbrev pub bytes_s : List ℕ
bytes_s =
    17 ∷ 4
    ∷ 0 ∷ 0 ∷ 16 ∷ 0 ∷ 6 ∷ 0 ∷ 0 ∷ 96 ∷ 0 ∷ 2 ∷ 9 ∷ 0 ∷ 0 ∷ 0 ∷ 0 ∷ 0 ∷ 0 ∷ 0 ∷ 0 ∷ 0 ∷ 6 ∷ 0 ∷ 0 ∷ 0 ∷ 0 ∷ 0 ∷ 0 ∷ 0 ∷ 0
    ∷ 0 ∷ 0 ∷ 0 ∷ 0 ∷ 12 ∷ 0 ∷ 0 ∷ 192 ∷ 0 ∷ 5 ∷ 5 ∷ 0 ∷ 6 ∷ 0 ∷ 0 ∷ 0 ∷ 0 ∷ 0 ∷ 0 ∷ 0 ∷ 6 ∷ 0 ∷ 0 ∷ 0 ∷ 0 ∷ 0 ∷ 0 ∷ 0 ∷ 0
    ∷ []

-- The shortest hyperperiod.
abbrev pub plan_one : Content
plan_one = record { reload = 0; tasks = task 0 1 1 1 0 0 no_line no_line ∷ [] }

-- Two tasks that want the core in the same tick.
abbrev pub plan_two : Content
plan_two = record { reload = 0; tasks = task 0 1 1 1 0 0 no_line no_line ∷ task 0 1 1 1 0 0 no_line no_line ∷ [] }

-- Task 0 takes a line of task 2 alone, and task 1 runs between them.
abbrev pub plan_nested : Content
plan_nested = record {
  reload = 1;
  tasks =
      task 2 12 12 1 9 0 no_line (line 5)
      ∷ task 1 12 12 2 5 0 (line 7) (line 7)
      ∷ task 0 12 6 3 1 0 (line 5) (line 5)
      ∷ [];
}

-- Each job of task 0 has to be served in the tick of its release, and has a useful line that nobody else evicts.
abbrev pub plan_next : Content
plan_next = record {
  reload = 1;
  tasks = task 0 2 1 1 9 0 (line 1) (line 1) ∷ task 0 4 4 1 5 0 no_line no_line ∷ [];
}

-- A resume of task 2 leaves credit that its next resume needs.
abbrev pub plan_credit : Content
plan_credit = record {
  reload = 1;
  tasks =
      task 4 12 12 1 9 0 no_line (line 1 + line 2)
      ∷ task 2 12 12 1 8 0 no_line (line 1)
      ∷ task 0 12 12 5 1 0 (line 1 + line 2) (line 1 + line 2)
      ∷ [];
}

-- Two samples differ in the lines that task 3 keeps, and in nothing else.
abbrev pub plan_kept : Content
plan_kept = record {
  reload = 1;
  tasks =
      task 3 8 8 3 9 0 no_line no_line
      ∷ task 1 8 8 1 8 0 no_line (line 1)
      ∷ task 5 4 4 1 7 0 no_line no_line
      ∷ task 0 8 8 2 1 0 (line 1) (line 1)
      ∷ [];
}

-- Two samples differ in the running task, and in nothing else.
abbrev pub plan_running : Content
plan_running = record {
  reload = 2;
  tasks =
      task 4 12 12 3 9 0 no_line no_line
      ∷ task 1 12 12 1 8 0 no_line (line 1)
      ∷ task 8 4 4 1 7 0 no_line no_line
      ∷ task 0 12 12 3 1 0 (line 1) (line 1)
      ∷ [];
}
