use Rattle.std.proofs.Common.{◌≡◌, ◌-◌}
use Rattle.bits.specs.Bits.{spelled}
use Rattle.bits.proofs.reader.BitReader.take.Given as goal

abbrev pub invariant-loop-at : goal.invariant-loop-at
invariant-loop-at l = l.value ≡ spelled l.self.bytes.now l.self.place (l.at - l.self.place)
