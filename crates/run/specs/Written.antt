-- What the ticks of the schedule write down. Assumes nothing.
--     switch_in c t         the switch row of tick t, or none
--     job_in c t            the job row of tick t, or none
--     written f t n         the rows that f tells of n ticks from instant t on, in their order
--     SameMemory l m        the log m is over the memory that l is over
use Rattle.std.specs.Prelude.{◌≡◌, ℕ, zero, suc, ◌+◌, List, [], ◌∷◌, ◌++◌, Some, None, Option}
use Rattle.row_log.specs.Entries.{lender, room}
use Rattle.row_log.specs.declared.journal.Log.{Log}
use Rattle.schedule.specs.Rows.{job_row, switch_row}
use Rattle.schedule.specs.Schedules.{moment}
use Rattle.schedule.specs.States.{Setting}
use Rattle.schedule.specs.declared.rows.JobRow.{JobRow}
use Rattle.schedule.specs.declared.rows.SwitchRow.{SwitchRow}

-- From the schedule's own moment at that instant.
abbrev pub switch_in : Setting → ℕ → Option SwitchRow
switch_in c t = switch_row c t (moment c t)

-- From the same moment.
abbrev pub job_in : Setting → ℕ → Option JobRow
job_in c t = job_row c t (moment c t)

-- A tick writes one row or none.
abbrev pub row_list : {R : Type 0} → Option R → List R
row_list None = []
row_list (Some r) = r ∷ []

unfoldable pub written : {R : Type 0} → (ℕ → Option R) → ℕ → ℕ → List R
written f t zero = []
written f t (suc n) = written f t n ++ row_list (f (t + n))

pub record SameMemory {R : Type 0} (before after : Log R) : Type 0 where
  pub room : room after ≡ room before
  pub lender : lender after ≡ lender before
