-- What `==` on states tells. Assumes nothing.
--     same_state a b    what `==` answers for the states a and b
--     equal_same        it answers whether they are the same state
use lib.Pointwise.{pointwise, pointwise_decides}
use Prim.Native.Nat.{ℕ}
use Rattle.std.specs.Prelude.{◌≡◌, ◌↔◌, Bool, true, IsTrue, Option, nat_eq}
use Rattle.std.specs.Option.{option_eq}
use Rattle.std.proofs.Common.{rules, ap}
use Rattle.std.proofs.lemmas.Bool.{and_parts, and_from}
use Rattle.delay.specs.MarkLaws as marks
use Rattle.schedule.specs.SlotLaws as slots
use Rattle.schedule.specs.States.{State}
use Rattle.schedule.specs.contracts.states.StatePartialEq.TheImpl.{ghosts}

-- Slot by slot, mark by mark, and the running task.
abbrev pub same_state : State → State → Bool
same_state = ghosts.eq

same_running : (o p : Option ℕ) → (option_eq nat_eq o p ≡ true → o ≡ p) × (o ≡ p → option_eq nat_eq o p ≡ true)
same_running o p = Prim.search rules

-- what decides each of three parts decides all three
pub equal_same : (a b : State) → IsTrue (same_state a b) ↔ (a ≡ b)
equal_same a b = (there, back)
  where
    of_slots : (pointwise slots.slot_eq a.slots b.slots ≡ true → a.slots ≡ b.slots) × (a.slots ≡ b.slots → pointwise slots.slot_eq a.slots b.slots ≡ true)
    -- found anew and not by `slots.equal_same`, so that a false `==` on slots is refused at that law and not at its use here
    of_slots = pointwise_decides (λ x y. Prim.search rules) a.slots b.slots

    of_marks : (pointwise marks.mark_eq a.marks b.marks ≡ true → a.marks ≡ b.marks) × (a.marks ≡ b.marks → pointwise marks.mark_eq a.marks b.marks ≡ true)
    of_marks = pointwise_decides marks.equal_same a.marks b.marks

    there : IsTrue (same_state a b) → a ≡ b
    there h =
        let p = and_parts (pointwise slots.slot_eq a.slots b.slots) _ h in
        let q = and_parts (pointwise marks.mark_eq a.marks b.marks) _ p.1 in
        λ i. record { slots = of_slots.0 p.0 i; marks = of_marks.0 q.0 i; running = (same_running a.running b.running).0 q.1 i }

    back : a ≡ b → IsTrue (same_state a b)
    back e =
        and_from (pointwise slots.slot_eq a.slots b.slots) _ (of_slots.1 (ap (λ (s : State). s.slots) e))
        (and_from (pointwise marks.mark_eq a.marks b.marks) _ (of_marks.1 (ap (λ (s : State). s.marks) e)) ((same_running a.running b.running).1 (ap (λ (s : State). s.running) e)))
