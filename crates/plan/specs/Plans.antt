-- What the contracts of `Plan` cite. Assumes nothing.
--     tasks_in p            the tasks of the plan p
--     content_of p          what the plan p says
--     OnlyEncoding c bs     no other bytes than bs are admitted with the content c
use Rattle.std.specs.Prelude.{◌≡◌, ℕ, List, take, Ok}
use Rattle.plan.specs.declared.admitted.Plan.{Plan}
use Rattle.plan.specs.declared.tasks.Task.{Task}
use Rattle.bits.specs.Layouts.{Bytes}
use Rattle.plan.specs.Admission.{Content, admission}

-- The places of the table past the count hold no task.
abbrev pub tasks_in : Plan → List Task
tasks_in p = take p.head.count p.tasks

-- The reload time and the tasks.
abbrev pub content_of : Plan → Content
content_of p = record { reload = p.head.block_reload_time; tasks = tasks_in p }

-- An admitted plan can be written down in one way only.
abbrev pub OnlyEncoding : Content → List ℕ → Type 0
OnlyEncoding c bs = (other : List ℕ) → Bytes other → admission other ≡ Ok c → other ≡ bs
