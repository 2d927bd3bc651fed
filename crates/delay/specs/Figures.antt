-- What a plan says of a task number. Assumes nothing.
--     task_at c i       the task of row i, the zero task where the plan has no such row
--     delay_of c i      the fixed delay of task i
--     useful_of c i     its useful cache lines
--     evicting_of c i   the cache lines that it evicts
use Rattle.std.specs.Prelude.{ℕ, slice_index_or}
use Rattle.plan.specs.Admission.{Content}
use Rattle.plan.specs.Tasks.{zero_task}
use Rattle.plan.specs.declared.tasks.Task.{Task}

abbrev pub task_at : Content → ℕ → Task
task_at c i = slice_index_or c.tasks i zero_task

abbrev pub delay_of : Content → ℕ → ℕ
delay_of c i = (task_at c i).fixed_delay

abbrev pub useful_of : Content → ℕ → ℕ
useful_of c i = (task_at c i).useful.lines

abbrev pub evicting_of : Content → ℕ → ℕ
evicting_of c i = (task_at c i).evicting.lines
