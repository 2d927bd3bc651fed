-- The two steps of a tick that test something, with the test apart, so that a proof can go by its cases.
--     switched_by b h c j s     step 3, where b says that j is running and h that its job has begun
--     settled_by b j s          step 5, where b says that no work is left
use Rattle.std.proofs.Common.{ℕ, Bool, cond, set, Some, None}
use Rattle.delay.specs.Marks.{changed, zero_mark}
use Rattle.schedule.specs.Jobs.{vacant}
use Rattle.schedule.specs.States.{Setting, State}
use Rattle.schedule.specs.Ticks.{began, resumed}

abbrev pub switched_by : Bool → Bool → Setting → ℕ → State → State
switched_by b h c j s = cond {A = State} b s (cond {A = State} h (resumed c j s) (began c j s))

abbrev pub settled_by : Bool → ℕ → State → State
settled_by b j s =
    cond {A = State} b
    (record { slots = set s.slots j vacant; marks = changed s.marks j (λ _. zero_mark); running = None })
    (record { slots = s.slots; marks = s.marks; running = Some j })
