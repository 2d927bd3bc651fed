-- Tests of equality, and what they tell. A test computes each side once, where a comparison would unfold both by turns.
use Rattle.std.specs.Prelude.{◌≡◌, ℕ, Bool, true, false, not, ◌&&◌, List, Some, None, Option, ◌==◌, ◌≢◌, refl}
use Rattle.std.specs.Option.{option_eq}
use Rattle.std.proofs.Common.{ap, sym, subst}
use Rattle.std.proofs.lemmas.Bool.{and_from, and_parts, both_ways, eqb-true, not-true}
use Rattle.std.proofs.lemmas.Bool.Decides.{Decides-eqb}
use lib.Pointwise.{pointwise, pointwise_decides}
use Rattle.delay.specs.MarkLaws as marks
use Rattle.delay.specs.declared.mark.Mark.{Mark}
use Rattle.schedule.specs.declared.summaries.Summary.{Summary}
use Rattle.schedule.specs.SlotLaws as slots
use Rattle.schedule.specs.declared.slots.Slot.{Slot}

-- ---- numbers and tasks

pub other_number : (a b : ℕ) → not (a == b) ≡ true → a ≢ b
other_number a b h e = both_ways _ (not-true _ h) ((Decides-eqb a b).1 e)

abbrev pub task_eq : Option ℕ → Option ℕ → Bool
task_eq a b = option_eq (λ x y. x == y) a b

pub same_task : (a b : Option ℕ) → task_eq a b ≡ true → a ≡ b
same_task None None h = refl
same_task None (Some y) h = absurd (both_ways _ refl h)
same_task (Some x) None h = absurd (both_ways _ refl h)
same_task (Some x) (Some y) h = ap Some ((Decides-eqb x y).0 h)

own_task : (a : Option ℕ) → task_eq a a ≡ true
own_task None = refl
own_task (Some x) = (Decides-eqb x x).1 refl

pub other_task : (a b : Option ℕ) → not (task_eq a b) ≡ true → a ≢ b
other_task a b h e = both_ways _ (subst (λ (z : Option ℕ). task_eq a z ≡ false) (sym e) (not-true _ h)) (own_task a)

-- ---- parts of states

abbrev pub slots_eq : List Slot → List Slot → Bool
slots_eq xs ys = pointwise slots.slot_eq xs ys

pub same_slots : (xs ys : List Slot) → slots_eq xs ys ≡ true → xs ≡ ys
same_slots xs ys = (pointwise_decides slots.equal_same xs ys).0

pub same_mark : (a b : Mark) → marks.mark_eq a b ≡ true → a ≡ b
same_mark a b = (marks.equal_same a b).0

abbrev pub marks_eq : List Mark → List Mark → Bool
marks_eq xs ys = pointwise marks.mark_eq xs ys

pub same_marks : (xs ys : List Mark) → marks_eq xs ys ≡ true → xs ≡ ys
same_marks xs ys = (pointwise_decides marks.equal_same xs ys).0

-- ---- summaries

abbrev summary_eq : Summary → Summary → Bool
summary_eq a b = a.finished == b.finished && (a.worst == b.worst && a.delay == b.delay)

same_summary : (a b : Summary) → summary_eq a b ≡ true → a ≡ b
same_summary a b h =
    let first = and_parts (a.finished == b.finished) _ h in
    let rest = and_parts (a.worst == b.worst) _ first.1 in
    let f = eqb-true a.finished b.finished first.0 in
    let w = eqb-true a.worst b.worst rest.0 in
    let d = eqb-true a.delay b.delay rest.1 in
    λ i. record { finished = f i; worst = w i; delay = d i }

own_summary : (a b : Summary) → a ≡ b → summary_eq a b ≡ true
own_summary a b e = subst (λ (z : Summary). summary_eq a z ≡ true) e (own a)
  where
    own : (a : Summary) → summary_eq a a ≡ true
    own a = and_from _ _ ((Decides-eqb a.finished a.finished).1 refl) (and_from _ _ ((Decides-eqb a.worst a.worst).1 refl) ((Decides-eqb a.delay a.delay).1 refl))

abbrev pub summaries_eq : List Summary → List Summary → Bool
summaries_eq xs ys = pointwise summary_eq xs ys

pub same_summaries : (xs ys : List Summary) → summaries_eq xs ys ≡ true → xs ≡ ys
same_summaries xs ys = (pointwise_decides (λ a b. (same_summary a b, own_summary a b)) xs ys).0
