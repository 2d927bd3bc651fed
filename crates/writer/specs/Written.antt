-- What stands in a buffer that a plan is written into. Assumes nothing.
--     Fits t                                each value of the task t fits its field
--     HeadOf b n reload                     the buffer b begins with the head of a plan of n tasks
--     RowHolds b i t                        row i of the buffer b holds the task t
--     HeadWritten before after n reload     the head of a plan of n tasks was written, and nothing else
--     RowWritten before after i t           row i was written with the task t, and nothing else
--     Wrote w b reload ts                   the buffer b holds what the writer w was given: the reload time and the tasks ts so far
--     MayBegin n reload room h              a plan of n tasks may be begun, and h is its head
--     Begun, Moved, Unmoved                 what a begin, a row that was written and a row that was refused leave behind
--     RowChecked w t room h                 the task t may be written next, and h is then the common period
--     ReadsBack w n                         the first n bytes of each buffer that holds what w was given are admitted as just that
use Rattle.std.specs.Prelude.{◌≡◌, ℕ, ◌+◌, ◌*◌, ◌^◌, ◌<◌, ◌≤◌, true, List, [], ◌∷◌, ◌++◌, length, take, drop, None, Ok}
use Rattle.bits.specs.Layouts.{fields_at}
use Rattle.plan.specs.declared.heads.Head.{Head}
use Rattle.plan.specs.declared.tasks.Task.{Task}
use Rattle.plan.specs.Admission.{admission}
use Rattle.plan.specs.Checks.{first_wrong}
use Rattle.plan.specs.Layout.{body, head_values, head_widths, row_bytes, row_values, row_widths, rows_of, spare_of}
use Rattle.plan.specs.Periods.{IsLcm, Joins}
use Rattle.plan.specs.Tasks.{all_of, lawful, periods}
use Rattle.writer.specs.declared.token.PlanWriter.{PlanWriter}
use Rattle.writer.specs.Rules.{begin_checks, row_checks, whole_bytes}

-- Each value of the task fits its field in a row.
pub record Fits (t : Task) : Type 0 where
  pub offset : t.offset < 2 ^ 20
  pub period : t.period < 2 ^ 20
  pub deadline : t.deadline < 2 ^ 20
  pub work : t.work < 2 ^ 20
  pub delay : t.fixed_delay < 2 ^ 12

-- The fields of the head hold the revision 1, the count, the reload time and spare bits of 0.
abbrev pub HeadOf : List ℕ → ℕ → ℕ → Type 0
HeadOf b n reload = fields_at b 0 head_widths ≡ head_values 1 n reload 0

-- The fields of row i hold the task and spare bits of 0.
abbrev pub RowHolds : List ℕ → ℕ → Task → Type 0
RowHolds b i t = fields_at (row_bytes (body b) i) 0 row_widths ≡ row_values t 0

-- Only the first two bytes changed.
pub record HeadWritten (before after : List ℕ) (n reload : ℕ) : Type 0 where
  pub head : HeadOf after n reload
  pub rest : drop 2 after ≡ drop 2 before
  pub size : length after ≡ length before

-- The bytes before the row's 29 and those behind them are as they were.
pub record RowWritten (before after : List ℕ) (i : ℕ) (t : Task) : Type 0 where
  pub front : take (2 + 29 * i) after ≡ take (2 + 29 * i) before
  pub row : RowHolds after i t
  pub rest : drop (2 + 29 * (i + 1)) after ≡ drop (2 + 29 * (i + 1)) before
  pub size : length after ≡ length before

-- Kept by every call, as long as nobody else writes into the buffer.
pub record Wrote (w : PlanWriter) (b : List ℕ) (reload : ℕ) (ts : List Task) : Type 0 where
  pub head : HeadOf b w.count reload
  pub room : whole_bytes w.count ≤ length b
  pub rows : rows_of (body b) w.next ≡ ts
  pub spares : (i : ℕ) → i < w.next → spare_of (row_bytes (body b) i) ≡ 0
  pub keeping : all_of lawful ts ≡ true
  pub repeating : IsLcm w.hyperperiod.ticks (periods ts)

-- Whatever else stands in the buffer, and whoever holds it.
abbrev pub ReadsBack : PlanWriter → ℕ → Type 0
ReadsBack w n = (b : List ℕ) (reload : ℕ) (ts : List Task) → Wrote w b reload ts → admission (take n b) ≡ Ok (record { reload = reload; tasks = ts })

-- A begin that passed its checks, with the head that is written.
pub record MayBegin (n reload room : ℕ) (h : Head) : Type 0 where
  pub passed : first_wrong (begin_checks n reload room) ≡ None
  pub counted : h.count ≡ n
  pub timed : h.block_reload_time ≡ reload
  pub space : whole_bytes n ≤ room

-- A begin that was answered with the writer w.
pub record Begun (before after : List ℕ) (n reload : ℕ) (w : PlanWriter) : Type 0 where
  pub count : w.count ≡ n
  pub next : w.next ≡ 0
  pub hyperperiod : w.hyperperiod.ticks ≡ 1
  pub written : HeadWritten before after n reload
  pub kept : Wrote w after reload []

-- A row that was written: the writer w is v after it.
pub record Moved (before after : List ℕ) (w v : PlanWriter) (t : Task) : Type 0 where
  pub count : v.count ≡ w.count
  pub next : v.next ≡ w.next + 1
  pub hyperperiod : Joins v.hyperperiod.ticks w.hyperperiod.ticks t.period
  pub written : RowWritten before after w.next t
  pub kept : (reload : ℕ) (ts : List Task) → Wrote w before reload ts → Wrote v after reload (ts ++ (t ∷ []))

-- A row that was refused: the writer and the buffer are as they were.
pub record Unmoved (before after : List ℕ) (w v : PlanWriter) : Type 0 where
  pub count : v.count ≡ w.count
  pub next : v.next ≡ w.next
  pub hyperperiod : v.hyperperiod.ticks ≡ w.hyperperiod.ticks
  pub same : after ≡ before
  pub kept : (reload : ℕ) (ts : List Task) → Wrote w before reload ts → Wrote v after reload ts

-- A row that passed its checks, with the common period h of the rows up to it.
pub record RowChecked (w : PlanWriter) (t : Task) (room h : ℕ) : Type 0 where
  pub passed : first_wrong (row_checks w t room) ≡ None
  pub free : w.next < w.count
  pub space : whole_bytes w.count ≤ room
  pub fits : Fits t
  pub keeping : lawful t ≡ true
  pub joins : Joins h w.hyperperiod.ticks t.period
