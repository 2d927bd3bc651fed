use Rattle.std.proofs.Common.{refl, arith}
use Rattle.std.proofs.lemmas.List.{at_drop_more}
use Rattle.report.specs.declared.word.Word.TheVariants.{Holds}
use Rattle.report.specs.Words.{blanked}
use Rattle.report.proofs.Taking.{takes_piece, takes_then, reaches_taken, up_to_none, up_to_more, up_to_spent}
use Rattle.report.proofs.line.put_words.Goals as goal

pub loop-word-init : goal.loop-word-init
loop-word-init g c = up_to_none _ _

pub loop-word-preserved : goal.loop-word-preserved
loop-word-preserved g c =
    up_to_more c.loop-word.invariant (reaches_taken (takes_then {most = 21} (takes_piece {most = 1} c.put.ensures refl (omega arith)) c.put_word.ensures (omega arith)))
    (at_drop_more blanked c.args.words.now c.loop-word.word-index Holds (omega arith)) (omega arith)

pub returns-then-is_spent : goal.returns-then-is_spent
returns-then-is_spent g c = up_to_spent c.loop-word.invariant (c.if-is_spent.ensures refl) (omega arith)
