use Rattle.std.proofs.Common.{rules, arith}
use Rattle.report.proofs.Puts.{put_whole}
use Rattle.report.proofs.Sinks.{wrote_all}
use Rattle.report.proofs.text.Text.fill.Goals as goal

pub returns : goal.returns
returns c =
    let wrote = wrote_all c.put.ensures.all in
    let lender = wrote.lender in
    let whole = put_whole (wrote.put (omega (arith, c.requires))) c.requires in
    search rules
