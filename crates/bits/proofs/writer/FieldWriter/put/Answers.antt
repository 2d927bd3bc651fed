use Rattle.std.proofs.Common.{◌≡◌, ◌+◌, ◌-◌, ◌*◌, ◌/◌, ◌^◌, ◌<◌, length, refl, arith}
use Rattle.bits.proofs.Fields.{last_bit}
use Rattle.bits.proofs.Writes.{written_none, written_more, next_bit}
use Rattle.bits.proofs.writer.FieldWriter.put.Goals as goal

pub loop-i-init : goal.loop-i-init
loop-i-init c = (written_none _ _ c.args.value c.args.width c.if-not-fits.ensures, refl, refl)

pub loop-i-preserved : goal.loop-i-preserved
loop-i-preserved c =
    let bytes = c.loop-i.self.out.now in
    let at = c.loop-i.self.place in
    let p = at + c.from-in-loop-i.result in
    let here : p ≡ at + c.loop-i.i = omega arith in
    let within : p < 8 * length bytes = omega (arith, c.loop-i.invariant.0.size) in
    let next = next_bit c.args.value c.args.width c.loop-i.i (omega arith) in
    let last = last_bit (c.args.value / 2 ^ (c.args.width - 1 - c.loop-i.i)) in
    (written_more c.args.self.now.out.now bytes at c.loop-i.i _ _ p c.with_bit.result _ c.loop-i.invariant.0 here within c.with_bit.ensures (omega arith), c.loop-i.invariant.1, c.loop-i.invariant.2)
