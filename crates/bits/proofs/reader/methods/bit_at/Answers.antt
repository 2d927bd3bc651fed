use Rattle.bits.proofs.Fields.{bit_is_set}
use Rattle.bits.proofs.reader.methods.bit_at.Goals as goal

pub returns : goal.returns
returns c = bit_is_set c.args.bytes.now c.args.i
