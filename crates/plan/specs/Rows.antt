-- What admitting rows gives. Assumes nothing.
--     RowAdmitted b i t h       row i of the body b passes its checks with the task t, and h is the common period up to it
--     RowsAdmitted b n ts a h   the first n rows pass with the tasks ts, their greatest offset a and their common period h
use Rattle.std.specs.Prelude.{◌≡◌, ℕ, ◌+◌, ◌*◌, ◌≤◌, true, List, length, None}
use Rattle.plan.specs.declared.tasks.Task.{Task}
use Rattle.plan.specs.Admission.{row_checks, rows_checks}
use Rattle.plan.specs.Checks.{first_wrong}
use Rattle.plan.specs.Layout.{row_of, rows_of}
use Rattle.plan.specs.Periods.{IsLcm, hyperperiod_limit}
use Rattle.plan.specs.Tasks.{all_of, greatest, lawful, offsets, periods}

pub record RowAdmitted (b : List ℕ) (i : ℕ) (t : Task) (h : ℕ) : Type 0 where
  pub passed : first_wrong (row_checks b i) ≡ None
  pub whole : 29 * (i + 1) ≤ length b
  pub spelled : t ≡ row_of b i
  pub keeping : lawful t ≡ true
  pub repeating : IsLcm h (periods (rows_of b (i + 1)))
  pub limited : h ≤ hyperperiod_limit

pub record RowsAdmitted (b : List ℕ) (n : ℕ) (ts : List Task) (a h : ℕ) : Type 0 where
  pub passed : first_wrong (rows_checks b n) ≡ None
  pub whole : 29 * n ≤ length b
  pub spelled : ts ≡ rows_of b n
  pub keeping : all_of lawful ts ≡ true
  pub farthest : a ≡ greatest (offsets ts)
  pub repeating : IsLcm h (periods ts)
  pub limited : h ≤ hyperperiod_limit
