-- What a dispatch policy means. Assumes nothing.
--     Rule                      from what is shown of each task, and the running task, to a task or idle
--     absent                    what is shown past the last task
--     live_at rows i            task i is shown with a live job
--     NamesLive rule            the rule names only a task with a live job
--     or_else o other           o where it is there, otherwise the other
--     first_such n p            the least number below n of which p holds
--     most_urgent urgent rows   the live task that is at least as urgent as every live task, the first of several
--     better urgent rows o n    the more urgent of o and task n
--     keeping rule              the running task while its job is live, otherwise what the rule says
use Rattle.std.specs.Prelude.{◌≡◌, ℕ, zero, suc, Bool, true, false, cond, not, ◌&&◌, ◌||◌, List, length, Some, None, Option, nat_lt, slice_index_or}
use Rattle.plan.specs.Blocks.{every_below}
use Rattle.dispatch.specs.declared.candidates.Candidate.{Candidate}

-- No task is idle.
abbrev pub Rule : Type 0
Rule = List Candidate → Option ℕ → Option ℕ

-- What stands past the last task: no live job.
abbrev pub absent : Candidate
absent = record { live = false; left = 0; owed = 0; begun = false; until = 0 }

-- A number past the last row is no task.
abbrev pub live_at : List Candidate → ℕ → Bool
live_at rows i = nat_lt i (length rows) && (slice_index_or rows i absent).live

-- Whatever it is shown.
abbrev pub NamesLive : Rule → Type 0
NamesLive rule = (rows : List Candidate) (running : Option ℕ) (j : ℕ) → rule rows running ≡ Some j → live_at rows j ≡ true

-- The first choice, if there is one.
abbrev pub or_else : Option ℕ → Option ℕ → Option ℕ
or_else None other = other
or_else (Some i) other = Some i

-- None where p holds of no number below n.
unfoldable pub first_such : ℕ → (ℕ → Bool) → Option ℕ
first_such zero p = None
first_such (suc n) p = or_else (first_such n p) (cond (p n) (Some n) None)

-- `urgent i k` says that task i is at least as urgent as task k.
unfoldable pub most_urgent : (ℕ → ℕ → Bool) → List Candidate → Option ℕ
most_urgent urgent rows =
    first_such (length rows) (λ i. live_at rows i && every_below (length rows) (λ k. not (live_at rows k) || urgent i k))

-- The layer over a rule is worked out from that rule alone.
abbrev pub keeping : Rule → Rule
keeping rule rows None = rule rows None
keeping rule rows (Some r) = cond (live_at rows r) (Some r) (rule rows (Some r))

-- Of the most urgent so far and one live task more: that stays, unless it is less urgent.
abbrev pub better : (ℕ → ℕ → Bool) → List Candidate → Option ℕ → ℕ → Option ℕ
better urgent rows None n = cond (live_at rows n) (Some n) None
better urgent rows (Some b) n = cond (live_at rows n) (cond (urgent b n) (Some b) (Some n)) (Some b)
