use Rattle.std.proofs.Common.{◌+◌, ◌*◌, [], ◌∷◌, length, refl, arith}
use Rattle.report.proofs.Taking.{takes_piece, reaches_taken, reaches_then}
use Rattle.report.proofs.line.put_line.Goals as goal

pub returns : goal.returns
returns g c =
    let newline = reaches_taken {most = 1} (takes_piece {most = 1} {piece = 10 ∷ []} c.put.ensures refl (omega arith)) in
    let end = reaches_then {m = 21 * length c.args.words.now} {n = 1} {most = 21 * length c.args.words.now + 1} c.put_words.ensures newline (omega arith) in
    reaches_then (reaches_taken c.put_word.ensures) end (omega arith)
