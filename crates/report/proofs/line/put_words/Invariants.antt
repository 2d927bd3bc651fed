use Rattle.std.proofs.Common.{◌*◌, drop}
use Rattle.report.specs.Words.{blanked}
use Rattle.report.proofs.Taking.{TookUpTo}
use Rattle.report.proofs.line.put_words.Given as goal

abbrev pub invariant-loop-word : goal.invariant-loop-word
invariant-loop-word g l = TookUpTo g.S.Sink.took (21 * l.word-index) (blanked l.words) (blanked (drop l.word-index l.words)) l.initial.sink l.sink
