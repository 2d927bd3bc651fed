use Rattle.std.proofs.Common.{arith}
use Rattle.writer.proofs.Parts.{row_written}
use Rattle.writer.proofs.fill.write_row.Goals as goal

pub returns : goal.returns
returns c = row_written c.args.buffer.now c.fill_row.new.row c.whole_bytes-start.result c.args.row _ c.args.task c.whole_bytes-start.ensures (omega arith) (omega arith) c.requires.room c.fill_row.ensures
