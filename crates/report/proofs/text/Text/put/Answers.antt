use Rattle.std.proofs.Common.{arith}
use Rattle.report.proofs.Taking.{reaches_then}
use Rattle.report.proofs.text.Text.put.Goals as goal

pub returns : goal.returns
returns g c = reaches_then c.put_line.ensures c.put_tasks.ensures (omega arith)
