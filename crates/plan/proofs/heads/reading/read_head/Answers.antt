use Rattle.std.proofs.Common.{arith, rules}
use Rattle.std.proofs.lemmas.List.{take_rest}
use Rattle.plan.proofs.HeadBits.{revision_bits, count_bits, reload_bits, spare_bits}
use Rattle.plan.proofs.heads.reading.read_head.Goals as goal

pub returns : goal.returns
returns c =
    let revision = revision_bits c.args.bytes.now (omega (arith, c.type_inv.bytes 0)) in
    let spare = spare_bits c.args.bytes.now in
    let count = count_bits c.args.bytes.now in
    let reload = reload_bits c.args.bytes.now (omega (arith, c.type_inv.bytes 1)) in
    (search rules, record { count = omega arith; reload = omega arith; after = take_rest c.args.bytes.now 2 })
