-- The rules of the two policies. Assumes nothing.
--     priority_table ts     a priority for each of 16 tasks
--     priority_at ps i      the priority of task i
--     until_at rows i       the ticks until the deadline of task i's live job
--     fixed_priority ps     the greatest priority among the live tasks, the lowest number among equals
--     earliest_deadline     the fewest ticks until the deadline, the lowest number among equals
use Rattle.std.specs.Prelude.{ℕ, ◌-◌, List, ◌++◌, map, length, replicate, nat_le, slice_index, slice_index_or}
use Rattle.plan.specs.declared.tasks.Task.{Task}
use Rattle.dispatch.specs.declared.candidates.Candidate.{Candidate}
use Rattle.dispatch.specs.Rules.{Rule, absent, most_urgent}

-- The priorities of the tasks, and 0 in the places past them.
abbrev pub priority_table : List Task → List ℕ
priority_table ts = map (λ t. t.priority) ts ++ replicate (16 - length ts) 0

-- A greater number is more urgent.
abbrev pub priority_at : List ℕ → ℕ → ℕ
priority_at ps i = slice_index ps i

-- A smaller number is more urgent.
abbrev pub until_at : List Candidate → ℕ → ℕ
until_at rows i = (slice_index_or rows i absent).until

-- The running task plays no part.
abbrev pub fixed_priority : List ℕ → Rule
fixed_priority ps rows running = most_urgent (λ i k. nat_le (priority_at ps k) (priority_at ps i)) rows

-- The running task plays no part.
abbrev pub earliest_deadline : Rule
earliest_deadline rows running = most_urgent (λ i k. nat_le (until_at rows i) (until_at rows k)) rows
