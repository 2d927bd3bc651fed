use Rattle.std.proofs.Common.{◌≡◌, ◌+◌, ◌-◌, sym, ap, ◌∙◌, arith, rules}
use Rattle.bits.specs.Bits.{bit, spelled}
use Rattle.bits.proofs.Fields.{spelled_none, spelled_shift, spelled_below_power}
use Rattle.bits.proofs.reader.BitReader.take.Goals as goal

pub loop-at-init : goal.loop-at-init
loop-at-init c =
    let place = c.args.self.now.place in
    let none : place - place ≡ 0 = omega arith in
    sym (ap (spelled c.args.self.now.bytes.now place) none ∙ spelled_none _ _)

pub loop-at-preserved : goal.loop-at-preserved
loop-at-preserved c =
    let bytes = c.args.self.now.bytes.now in
    let place = c.args.self.now.place in
    let taken = c.loop-at.at - place in
    let here : c.loop-at.at ≡ place + taken = omega arith in
    let more : taken + 1 ≡ c.loop-at.at + 1 - place = omega arith in
    let next = c.from-in-loop-at.ensures ∙ (c.bit_at.ensures ∙ ap (bit bytes) here) in
    spelled_shift bytes place taken c.loop-at.value c.from-in-loop-at.result (omega arith) c.loop-at.invariant next
    ∙ ap (spelled bytes place) more

pub returns : goal.returns
returns c =
    let all : c.loop-at.at - c.args.self.now.place ≡ c.args.width = omega arith in
    let below = spelled_below_power c.args.self.now.bytes.now c.args.self.now.place c.args.width in
    search rules
