use Rattle.std.proofs.Common.{length, ap, sym, rules, arith}
use Rattle.std.proofs.lemmas.Fmt.{decimal_digit}
use Rattle.report.proofs.Taking.{takes_piece}
use Rattle.report.proofs.word.put_word.Goals as goal

pub returns-in-Holds : goal.returns-in-Holds
returns-in-Holds g c = takes_piece c.put.ensures (search rules) (omega arith)

pub returns-in-Misses : goal.returns-in-Misses
returns-in-Misses g c = takes_piece c.put-in-Misses.ensures (search rules) (omega arith)

pub returns-in-Open : goal.returns-in-Open
returns-in-Open g c = takes_piece c.put-in-Open.ensures (search rules) (omega arith)

pub returns-in-Refused : goal.returns-in-Refused
returns-in-Refused g c = takes_piece c.put-in-Refused.ensures (search rules) (omega arith)

pub returns-in-Number : goal.returns-in-Number
returns-in-Number g c =
    let digit = sym (decimal_digit c.in-Number.n (omega arith)) in
    takes_piece c.put-in-Number.ensures (search (rules, digit)) (omega arith)

pub returns-in-Number-2 : goal.returns-in-Number-2
returns-in-Number-2 g c = takes_piece c.put-in-Number-2.ensures (search rules) (omega (arith, c.format.ensures.fits, ap length c.as_bytes.ensures.value))

pub returns-in-Layer : goal.returns-in-Layer
returns-in-Layer g c = takes_piece c.put-in-Layer.ensures (search rules) (omega arith)

pub returns-in-Absent : goal.returns-in-Absent
returns-in-Absent g c = takes_piece c.put-in-Absent.ensures (search rules) (omega arith)
