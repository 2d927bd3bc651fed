-- The report of a run. Assumes nothing.
--     Lived c x                   a run of c that shows x has had some life
--     reached_in c n              the instant that a run of c has reached when it has been asked for n ticks
--     report_instant c            the instant at which the run of c is reported
--     run_text c                  the report of the run of the schedule of c
--     longest_report              no report has more bytes
--     Answers c before after r    that report is written to the buffer, or the buffer is too short for it
--     TrueReport c                what that report tells is true of the schedule of c
use Rattle.std.specs.Prelude.{ℕ, zero, suc, cond, List, Result}
use Rattle.fault.specs.declared.Fault.{Fault}
use Rattle.report.specs.Buffers.{Written}
use Rattle.report.specs.Reports.{standing_text}
use Rattle.run.specs.Lives.{Call, Life}
use Rattle.run.specs.Runs.{Shown, shown_at}
use Rattle.run.specs.Truth.{TrueOf}
use Rattle.schedule.specs.Schedules.{summaries}
use Rattle.schedule.specs.States.{Setting}
use Rattle.standing.specs.Standings.{is_open, standing_at}

-- Which advances it has known does not matter.
abbrev pub Lived : Setting → Shown → Type 0
Lived c x = (calls : List Call) × Life c calls x

-- Once it is decided, it does no further tick.
unfoldable pub reached_in : Setting → ℕ → ℕ
reached_in c zero = 0
reached_in c (suc n) = cond (is_open (standing_at c (reached_in c n))) (suc (reached_in c n)) (reached_in c n)

-- Where it is decided; 20,000,000 where it is still open there.
abbrev pub report_instant : Setting → ℕ
report_instant c = reached_in c 20000000

-- The standing, the instant and the summaries there.
unfoldable pub run_text : Setting → List ℕ
run_text c = standing_text (standing_at c (report_instant c)) (report_instant c) (summaries c (report_instant c))

-- A line for each of 16 tasks and one before them, each of four words of at most 20 bytes with a blank or a newline.
abbrev pub longest_report : ℕ
longest_report = 1428

-- By tasks, rule, profile and hyperperiod, so that each order has its own.
abbrev pub Answers : Setting → List ℕ → List ℕ → Result ℕ Fault → Type 0
Answers c before after r = Written longest_report (run_text c) before after r

-- The first line is true of the schedule without end; the worst responses, of its jobs up to the instant of the report.
abbrev pub TrueReport : Setting → Type 0
TrueReport c = TrueOf c (shown_at c (report_instant c))
