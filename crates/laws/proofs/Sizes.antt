-- There is room for 16 tasks at every instant.
use Rattle.std.proofs.Common.{◌≡◌, ℕ, zero, suc, Bool, true, false, eqb, length, Some, None, Option, refl, ◌∙◌}
use Rattle.std.proofs.lemmas.List.{length-set}
use Rattle.schedule.proofs.Eaches.{length_each}
use Rattle.schedule.specs.Schedules.{moment}
use Rattle.schedule.specs.States.{Moment, Setting, State, slot_of}
use Rattle.schedule.specs.Ticks.{charged, chosen, is_running, released, served, settled, spent, switched, tick, worked}
use Rattle.laws.proofs.Steps.{settled_by, switched_by}

-- A place for each of 16 tasks.
pub record Sized (x : Moment) : Type 0 where
  pub slots : length x.state.slots ≡ 16
  pub next : length x.next ≡ 16
  pub delays : length x.delays ≡ 16

pub switched_size : (c : Setting) (j : ℕ) (s : State) → length (switched c j s).slots ≡ length s.slots
switched_size c j s = go (is_running s j) (slot_of s j).begun
  where
    go : (b h : Bool) → length (switched_by b h c j s).slots ≡ length s.slots
    go true h = refl
    go false true = simp length-set
    go false false = simp length-set

pub spent_size : (c : Setting) (j : ℕ) (s : State) → length (spent c j (switched c j s)).slots ≡ length s.slots
spent_size c j s = length-set (switched c j s).slots j (worked (slot_of (switched c j s) j)) ∙ switched_size c j s

settled_size : (j : ℕ) (s : State) → length (settled j s).slots ≡ length s.slots
settled_size j s = go (eqb (slot_of s j).left 0)
  where
    go : (b : Bool) → length (settled_by b j s).slots ≡ length s.slots
    go true = simp length-set
    go false = refl

served_size : (c : Setting) (o : Option ℕ) (s : State) → length (served c o s).slots ≡ length s.slots
served_size c None s = refl
served_size c (Some j) s = settled_size j (spent c j (switched c j s)) ∙ spent_size c j s

charged_size : (c : Setting) (o : Option ℕ) (x : Moment) → length (charged c o x) ≡ length x.delays
charged_size c None x = refl
charged_size c (Some j) x = simp length-set

released_sized : (c : Setting) (t : ℕ) (x : Moment) → Sized x → Sized (released c t x)
released_sized c t x h = record { slots = simp length_each h.slots; next = simp length_each h.next; delays = simp length_each h.delays }

tick_sized : (c : Setting) (t : ℕ) (x : Moment) → Sized x → Sized (tick c t x)
unfolding tick
tick_sized c t x h =
    let r = released_sized c t x h in
    record {
      slots = served_size c (chosen c t (released c t x)) (released c t x).state ∙ r.slots;
      next = r.next;
      delays = charged_size c (chosen c t (released c t x)) (released c t x) ∙ r.delays;
    }

pub moment_sized : (c : Setting) (t : ℕ) → Sized (moment c t)
unfolding moment
moment_sized c zero = record { slots = refl; next = refl; delays = refl }
moment_sized c (suc t) = tick_sized c t (moment c t) (moment_sized c t)

-- after the releases too
pub entry_sized : (c : Setting) (t : ℕ) → Sized (released c t (moment c t))
entry_sized c t = released_sized c t (moment c t) (moment_sized c t)
