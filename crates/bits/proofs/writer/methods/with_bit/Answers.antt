use Rattle.bits.proofs.OneBit.{set_bit, clear_bit}
use Rattle.bits.proofs.writer.methods.with_bit.Goals as goal

pub returns-then-on : goal.returns-then-on
returns-then-on c j h = simp c.if-on.true (set_bit c.args.byte c.args.k j c.requires h)

pub returns-else-on : goal.returns-else-on
returns-else-on c j h = simp c.if-on.false (clear_bit c.args.byte c.args.k j c.requires h)
