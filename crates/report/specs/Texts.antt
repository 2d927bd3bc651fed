-- What a text spells. Assumes nothing.
--     whole_text text     the bytes of the text
--     most_of text        it has no more bytes than these
use Rattle.std.specs.Prelude.{ℕ, ◌+◌, ◌*◌, List, ◌++◌, length}
use Rattle.report.specs.declared.text.Text.{Text}
use Rattle.report.specs.Reports.{task_lines}
use Rattle.report.specs.Words.{line}

-- The line of words, then the tasks' lines.
abbrev pub whole_text : Text → List ℕ
whole_text text = line text.first text.words.now ++ task_lines 0 text.tasks.now

-- A word and its blank or newline take 21 bytes, and a task's line has four words.
abbrev pub most_of : Text → ℕ
most_of text = 84 * length text.tasks.now + (21 * length text.words.now + 21)
