use Rattle.std.proofs.Common.{◌∙◌, arith}
use Rattle.delay.specs.LineLaws.{missing_counted}
use Rattle.delay.proofs.lines.missing_count.Goals as goal

pub returns : goal.returns
returns c = c.line_count.ensures ∙ missing_counted c.args.useful.lines c.args.kept.lines _ (omega arith) c.left_of.ensures.whole
