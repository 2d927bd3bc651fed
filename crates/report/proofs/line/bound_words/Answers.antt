use Rattle.std.proofs.Common.{◌+◌, drop, length, get_or, ap, arith, length-append}
use Rattle.std.proofs.lemmas.List.{at_drop_more}
use Rattle.report.specs.declared.word.Word.TheVariants.{Holds}
use Rattle.report.specs.Words.{blank_and, blanked}
use Rattle.report.proofs.line.bound_words.Goals as goal

pub loop-word-preserved : goal.loop-word-preserved
loop-word-preserved c =
    let next = ap length (at_drop_more blanked c.args.words.now c.loop-word.word-index Holds (omega arith)) in
    let word = get_or c.args.words.now c.loop-word.word-index Holds in
    omega (arith, c.loop-word.invariant, c.bound_word.ensures, next, length-append (blank_and word) (blanked (drop (c.loop-word.word-index + 1) c.args.words.now)))
