-- A table of priorities, one place at a time.
use Rattle.std.proofs.Common.{◌≡◌, ℕ, zero, suc, ◌+◌, ◌-◌, ◌<◌, ◌≤◌, List, [], ◌∷◌, ◌++◌, map, length, get_or, replicate, refl, sym, ◌∙◌, arith}
use Rattle.std.proofs.lemmas.Grind.{common_steps}
use Rattle.std.proofs.lemmas.List.{same_lists, get_or-replicate}
use Rattle.std.specs.Option.{option_map_or}
use Rattle.std.specs.Prelude.{slice_get}
use Rattle.plan.specs.declared.tasks.Task.{Task}
use Rattle.dispatch.specs.Policies.{priority_table}

-- the priority of a task, or 0 in the m places past the last one
place : (ts : List Task) (m k d : ℕ) → k < length ts + m → get_or (map (λ t. t.priority) ts ++ replicate m 0) k d ≡ option_map_or (λ t. t.priority) (slice_get ts k) 0
place [] m k d h = get_or-replicate m k 0 d (omega arith)
place (t ∷ ts) m zero d h = refl
place (t ∷ ts) m (suc k) d h = place ts m k d (omega arith)

pub table_is : (ts : List Task) (ps : List ℕ) → length ps ≡ 16 → length ts ≤ 16 → ((k d : ℕ) → k < 16 → get_or ps k d ≡ option_map_or (λ t. t.priority) (slice_get ts k) 0) → ps ≡ priority_table ts
table_is ts ps size few each =
    same_lists ps _ (grind (arith, common_steps, size, few)) (λ k d h. each k d (omega arith) ∙ sym (place ts (16 - length ts) k d (omega arith)))
