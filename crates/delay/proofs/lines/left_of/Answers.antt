use Rattle.std.proofs.Common.{ℕ, ap, ◌∙◌, arith}
use Rattle.plan.specs.Blocks.{holds}
use Rattle.delay.specs.LineLaws.{masked, set_holds}
use Rattle.delay.proofs.lines.left_of.Goals as goal

pub returns : goal.returns
returns c =
    let same = masked c.args.blocks.lines c.args.others.lines (omega arith) (omega arith) in
    record { whole = same; each = λ l h. ap (λ (z : ℕ). holds z l) same ∙ set_holds _ l h }
