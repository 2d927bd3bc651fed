use Rattle.std.proofs.Common.{arith}
use Rattle.delay.specs.LineLaws.{count_is_ones}
use Rattle.delay.proofs.lines.line_count.Goals as goal

pub returns : goal.returns
returns c = count_is_ones c.args.blocks.lines (omega arith)
