use Rattle.std.proofs.Common.{◌∙◌, length, None, arith, refl, rules}
use Rattle.std.proofs.lemmas.Iterator.{YieldsList-from_range}
use Rattle.std.proofs.lemmas.Iterator.Consumers.{fold_from_yields_List}
use Rattle.dispatch.specs.Rules.{better}
use Rattle.dispatch.specs.Urgencies.{found_one_by_one}
use Rattle.dispatch.proofs.urgency.most_urgent.Goals as goal

pub returns : goal.returns
returns g c =
    let rows = c.args.rows.now in
    let urgent = g.U.Urgency.urgent c.args.by.now rows in
    let law = g.met.U.Urgency in
    fold_from_yields_List _ (better urgent rows) None c.fold.result c.fold.ensures.ran (YieldsList-from_range 0 (length rows) (length rows) refl (omega arith)) (λ a x b q k. search rules)
    ∙ found_one_by_one urgent rows (law.total c.args.by.now rows) (law.through c.args.by.now rows)
