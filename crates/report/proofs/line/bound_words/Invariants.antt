use Rattle.std.proofs.Common.{◌+◌, ◌*◌, ◌≤◌, drop, length}
use Rattle.report.specs.Words.{blanked}
use Rattle.report.proofs.line.bound_words.Given as goal

abbrev pub invariant-loop-word : goal.invariant-loop-word
invariant-loop-word l = length (blanked l.words) ≤ 21 * l.word-index + length (blanked (drop l.word-index l.words))
