-- What a report says. Assumes nothing.
--     standing_line standing clock              the first line: how a run stands that has reached the clock
--     task_words summary                        the words after a task's number
--     task_line task summary                    the line of one task
--     task_lines first summaries                a line for each task, numbered upwards from the first
--     standing_text standing clock summaries    the whole report of a run
--     place_of place                            a row or a bit of a refusal, or the dash for one that it does not name
--     refusal_words fault                       the words after REFUSED
--     refused_line fault                        the one line of a refusal
use Rattle.std.specs.Prelude.{ℕ, ◌+◌, List, [], ◌∷◌, ◌++◌, Some, None, Option}
use Rattle.fault.specs.declared.Fault.{Fault}
use Rattle.fault.specs.Numbers.{number_of}
use Rattle.report.specs.declared.word.Word.{Word}
use Rattle.report.specs.declared.word.Word.TheVariants as words
use Rattle.report.specs.declared.word.Word.TheVariants.{Number, Layer, Refused, Absent}
use Rattle.report.specs.Words.{line}
use Rattle.schedule.specs.declared.summaries.Summary.{Summary}
use Rattle.standing.specs.declared.standings.Standing.{Standing}
use Rattle.standing.specs.declared.standings.Standing.TheVariants.{Open, Misses, Holds}

-- OPEN tells the clock, the others what they carry: the instant first.
abbrev pub standing_line : Standing → ℕ → List ℕ
standing_line Open clock = line words.Open (Number clock ∷ [])
standing_line (Misses instant task job) clock = line words.Misses (Number instant ∷ Number task ∷ Number job ∷ [])
standing_line (Holds instant sample earlier) clock = line words.Holds (Number instant ∷ Number sample ∷ Number earlier ∷ [])

-- How many jobs of the task finished, their worst response time, and the delay of them all.
abbrev pub task_words : Summary → List Word
task_words summary = Number summary.finished ∷ Number summary.worst ∷ Number summary.delay ∷ []

-- The task's number comes first.
abbrev pub task_line : ℕ → Summary → List ℕ
task_line task summary = line (Number task) (task_words summary)

-- The tasks stand in the order of their numbers.
abbrev pub task_lines : ℕ → List Summary → List ℕ
task_lines first [] = []
task_lines first (summary ∷ summaries) = task_line first summary ++ task_lines (first + 1) summaries

-- The standing first, then the tasks from number 0.
abbrev pub standing_text : Standing → ℕ → List Summary → List ℕ
standing_text standing clock summaries = standing_line standing clock ++ task_lines 0 summaries

-- A place is its number, and - where there is none.
abbrev pub place_of : Option ℕ → Word
place_of None = Absent
place_of (Some n) = Number n

-- The layer's letter, the cause's number, the row and the bit.
abbrev pub refusal_words : Fault → List Word
refusal_words fault = Layer fault.layer ∷ Number (number_of fault.cause) ∷ place_of fault.row ∷ place_of fault.bit ∷ []

-- A refusal is the whole report.
abbrev pub refused_line : Fault → List ℕ
refused_line fault = line Refused (refusal_words fault)
