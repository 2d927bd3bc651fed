use Rattle.std.proofs.Common.{arith}
use Rattle.writer.proofs.Parts.{head_written}
use Rattle.writer.proofs.fill.write_head.Goals as goal

pub returns : goal.returns
returns c = head_written c.args.buffer.now c.fill_head.new.bytes c.args.head.count c.args.head.block_reload_time (omega arith) c.requires c.fill_head.ensures
