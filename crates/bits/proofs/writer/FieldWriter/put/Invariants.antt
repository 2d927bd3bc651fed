use Rattle.std.proofs.Common.{◌≡◌, ◌-◌, ◌/◌, ◌^◌}
use Rattle.bits.proofs.Writes.{Written}
use Rattle.bits.proofs.writer.FieldWriter.put.Given as goal

abbrev pub invariant-loop-i : goal.invariant-loop-i
invariant-loop-i l =
    Written l.initial.self.out.now l.self.out.now l.self.place l.i (l.value / 2 ^ (l.width - l.i))
    × (l.self.place ≡ l.initial.self.place)
    × (l.self.out.ghost_name ≡ l.initial.self.out.ghost_name)
