-- The rules of one task. Assumes nothing.
--     zero_task                  no times, no delay and no cache lines
--     zero_period t              the period is 0
--     times_out_of_order t       not 1 ≤ work ≤ deadline ≤ period
--     useful_not_evicting t      a useful block is not an evicting block
--     fits_row t                 each value fits its field in a row of a plan
--     lawful t                   what every task of an admitted plan satisfies
--     offsets ts, periods ts     the offsets and the periods of the tasks ts, in their order
--     greatest ns                the greatest of the numbers ns, 0 where there is none
--     all_of p xs                p holds of each of xs
use Rattle.std.specs.Prelude.{ℕ, ◌^◌, max, Bool, true, not, ◌&&◌, List, [], ◌∷◌, map, ◌==◌, nat_le, nat_lt}
use Rattle.plan.specs.declared.tasks.Task.{Task}
use Rattle.plan.specs.Blocks.{within}

abbrev pub zero_task : Task
zero_task = record {
  offset = 0;
  period = 0;
  deadline = 0;
  work = 0;
  priority = 0;
  fixed_delay = 0;
  useful = record { lines = 0 };
  evicting = record { lines = 0 };
}

-- A task without a period is never released.
abbrev pub zero_period : Task → Bool
zero_period t = t.period == 0

-- A job has work to do, may get it done by its deadline, and its deadline comes before the next release.
abbrev pub times_out_of_order : Task → Bool
times_out_of_order t = not (nat_le 1 t.work && nat_le t.work t.deadline && nat_le t.deadline t.period)

-- A block that a task uses is one that it loads, and so evicts what was there.
abbrev pub useful_not_evicting : Task → Bool
useful_not_evicting t = not (within t.useful.lines t.evicting.lines)

-- Twenty bits each for the four times, 8 for the priority, 12 for the fixed delay and 64 for each set.
abbrev pub fits_row : Task → Bool
fits_row t =
    nat_lt t.offset (2 ^ 20) && nat_lt t.period (2 ^ 20) && nat_lt t.deadline (2 ^ 20) && nat_lt t.work (2 ^ 20)
    && nat_lt t.priority (2 ^ 8) && nat_lt t.fixed_delay (2 ^ 12)
    && nat_lt t.useful.lines (2 ^ 64) && nat_lt t.evicting.lines (2 ^ 64)

-- The fields hold it, and no rule is broken.
abbrev pub lawful : Task → Bool
lawful t = fits_row t && not (zero_period t) && not (times_out_of_order t) && not (useful_not_evicting t)

-- In ticks, one for each task.
abbrev pub offsets : List Task → List ℕ
offsets ts = map (λ t. t.offset) ts

-- In ticks, one for each task.
abbrev pub periods : List Task → List ℕ
periods ts = map (λ t. t.period) ts

-- The greater of the first and the greatest of the others.
abbrev pub greatest : List ℕ → ℕ
greatest [] = 0
greatest (n ∷ ns) = max n (greatest ns)

-- As a test, so that it can be part of a type.
abbrev pub all_of : {X : Type 0} → (X → Bool) → List X → Bool
all_of p [] = true
all_of p (x ∷ xs) = p x && all_of p xs
