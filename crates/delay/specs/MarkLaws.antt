-- What `==` on marks tells. Assumes nothing.
--     mark_eq a b       what `==` answers for the marks a and b
--     equal_same        it answers whether they are the same mark
use Rattle.std.specs.Prelude.{◌≡◌, ◌↔◌, Bool, IsTrue}
use Rattle.std.proofs.Common.{rules}
use Rattle.delay.specs.declared.mark.Mark.{Mark}
use Rattle.delay.specs.contracts.mark.MarkPartialEq.TheImpl.{ghosts}

abbrev pub mark_eq : Mark → Mark → Bool
mark_eq = ghosts.eq

pub equal_same : (a b : Mark) → IsTrue (mark_eq a b) ↔ (a ≡ b)
equal_same a b = Prim.search rules
