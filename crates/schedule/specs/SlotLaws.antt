-- What `==` on slots tells. Assumes nothing.
--     slot_eq a b       what `==` answers for the slots a and b
--     equal_same        it answers whether they are the same slot
use Rattle.std.specs.Prelude.{◌≡◌, ◌↔◌, Bool, IsTrue}
use Rattle.std.proofs.Common.{rules}
use Rattle.schedule.specs.declared.slots.Slot.{Slot}
use Rattle.schedule.specs.contracts.slots.SlotPartialEq.TheImpl.{ghosts}

abbrev pub slot_eq : Slot → Slot → Bool
slot_eq = ghosts.eq

pub equal_same : (a b : Slot) → IsTrue (slot_eq a b) ↔ (a ≡ b)
equal_same a b = Prim.search rules
