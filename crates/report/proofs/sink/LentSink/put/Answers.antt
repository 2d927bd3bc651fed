use Rattle.std.proofs.Common.{refl, rules}
use Rattle.std.proofs.lemmas.Slice.{overwrites}
use Rattle.report.proofs.sink.LentSink.put.Goals as goal

pub returns-then-end-self : goal.returns-then-end-self
returns-then-end-self c = record { put = λ h. record { place = refl; front = search (rules, overwrites); rest = search (rules, overwrites) }; size = search (rules, overwrites); lender = refl }
