-- What serving a choice does to the slot and to the delay of one task.
use Rattle.std.proofs.Common.{◌≡◌, ℕ, ◌+◌, ◌-◌, ◌<◌, Bool, true, false, cond, eqb, ltb, ◌≢◌, length, get_or, Some, None, Option, sym, refl, ap, ◌∙◌, add-zero, arith}
use Rattle.std.proofs.lemmas.List.{get_or-set_other, get_or-set_same}
use Rattle.std.proofs.lemmas.Bool.{eqb-false, true≢false}
use Rattle.schedule.specs.Jobs.{vacant}
use Rattle.schedule.specs.Rows.{finishes}
use Rattle.schedule.specs.States.{Moment, Setting, State, slot_of}
use Rattle.schedule.specs.Ticks.{answered, charged, delay_to, is_running, runs, served, settled, spent, switched, worked}
use Rattle.schedule.specs.declared.slots.Slot.{Slot}
use Rattle.laws.proofs.Sizes.{spent_size, switched_size}
use Rattle.laws.proofs.Steps.{settled_by, switched_by}

-- A task that is not the choice keeps its slot and its delay.

switched_other : (c : Setting) (j i : ℕ) (s : State) → i ≢ j → slot_of (switched c j s) i ≡ slot_of s i
switched_other c j i s other = go (is_running s j) (slot_of s j).begun
  where
    go : (b h : Bool) → slot_of (switched_by b h c j s) i ≡ slot_of s i
    go true h = refl
    go false true = get_or-set_other s.slots j i _ vacant other
    go false false = get_or-set_other s.slots j i _ vacant other

settled_other : (j i : ℕ) (s : State) → i ≢ j → slot_of (settled j s) i ≡ slot_of s i
settled_other j i s other = go (eqb (slot_of s j).left 0)
  where
    go : (b : Bool) → slot_of (settled_by b j s) i ≡ slot_of s i
    go true = get_or-set_other s.slots j i vacant vacant other
    go false = refl

pub served_other : (c : Setting) (o : Option ℕ) (i : ℕ) (s : State) → runs o i ≡ false → slot_of (served c o s) i ≡ slot_of s i
served_other c None i s h = refl
served_other c (Some j) i s h =
    let other : i ≢ j = λ e. eqb-false j i h (sym e) in
    settled_other j i (spent c j (switched c j s)) other
    ∙ get_or-set_other (switched c j s).slots j i (worked (slot_of (switched c j s) j)) vacant other
    ∙ switched_other c j i s other

pub charged_other : (c : Setting) (o : Option ℕ) (i : ℕ) (x : Moment) → runs o i ≡ false → get_or (charged c o x) i 0 ≡ get_or x.delays i 0
charged_other c None i x h = refl
charged_other c (Some j) i x h =
    let other : i ≢ j = λ e. eqb-false j i h (sym e) in
    get_or-set_other x.delays j i (get_or x.delays j 0 + delay_to c j x.state) 0 other

-- The slot of the task that is served, after its tick and before its job may leave.
abbrev pub worked_slot : Setting → ℕ → State → Slot
worked_slot c i s = slot_of (spent c i (switched c i s)) i

-- The delay is owed first, and then one tick of reload or of work is done.
pub record Worked (s : Slot) (x : ℕ) (w : Slot) : Type 0 where
  pub live : w.live ≡ s.live
  pub left : w.left ≡ cond (ltb 0 (s.owed + x)) s.left (s.left - 1)
  pub owed : w.owed ≡ s.owed + x - 1

-- The slot once the task has the core.
record Given (s : Slot) (x : ℕ) (g : Slot) : Type 0 where
  live : g.live ≡ s.live
  left : g.left ≡ s.left
  owed : g.owed ≡ s.owed + x

given_worked : (s : Slot) (x : ℕ) (g : Slot) → Given s x g → Worked s x (worked g)
given_worked s x g h = record { live = h.live; left = rw (h.left, h.owed); owed = rw h.owed }

-- A task that goes on, or begins, is given the core for nothing.
switched_own : (c : Setting) (i : ℕ) (s : State) → i < length s.slots → Given (slot_of s i) (delay_to c i s) (slot_of (switched c i s) i)
switched_own c i s room = go (is_running s i) (slot_of s i).begun
  where
    go : (b h : Bool) → Given (slot_of s i) (cond b 0 (cond h (answered c i s) 0)) (slot_of (switched_by b h c i s) i)
    go true h = record { live = refl; left = refl; owed = sym (add-zero (slot_of s i).owed) }
    go false true =
        let e = get_or-set_same s.slots i (record { live = (slot_of s i).live; left = (slot_of s i).left; owed = (slot_of s i).owed + answered c i s; begun = true }) vacant room in
        record { live = ap (λ g. g.live) e; left = ap (λ g. g.left) e; owed = ap (λ g. g.owed) e }
    go false false =
        let e = get_or-set_same s.slots i (record { live = (slot_of s i).live; left = (slot_of s i).left; owed = (slot_of s i).owed; begun = true }) vacant room in
        record { live = ap (λ g. g.live) e; left = ap (λ g. g.left) e; owed = ap (λ g. g.owed) e ∙ sym (add-zero (slot_of s i).owed) }

spent_own : (c : Setting) (i : ℕ) (s : State) → i < length s.slots → worked_slot c i s ≡ worked (slot_of (switched c i s) i)
spent_own c i s room =
    let still : i < length (switched c i s).slots = omega (arith, switched_size c i s) in
    get_or-set_same (switched c i s).slots i (worked (slot_of (switched c i s) i)) vacant still

pub worked_own : (c : Setting) (i : ℕ) (s : State) → i < length s.slots → Worked (slot_of s i) (delay_to c i s) (worked_slot c i s)
worked_own c i s room =
    let g = given_worked (slot_of s i) (delay_to c i s) (slot_of (switched c i s) i) (switched_own c i s room) in
    let e = spent_own c i s room in
    record { live = ap (λ w. w.live) e ∙ g.live; left = ap (λ w. w.left) e ∙ g.left; owed = ap (λ w. w.owed) e ∙ g.owed }

-- A job that gets its last tick leaves the slot.
pub served_own : (c : Setting) (i : ℕ) (s : State) → i < length s.slots → slot_of (served c (Some i) s) i ≡ cond (finishes c i s) vacant (worked_slot c i s)
served_own c i s room = go (finishes c i s)
  where
    still : i < length (spent c i (switched c i s)).slots
    still = omega (arith, spent_size c i s)

    go : (b : Bool) → slot_of (settled_by b i (spent c i (switched c i s))) i ≡ cond b vacant (worked_slot c i s)
    go true = get_or-set_same (spent c i (switched c i s)).slots i vacant vacant still
    go false = refl

pub charged_own : (c : Setting) (i : ℕ) (x : Moment) → i < length x.delays → get_or (charged c (Some i) x) i 0 ≡ get_or x.delays i 0 + delay_to c i x.state
charged_own c i x room = get_or-set_same x.delays i (get_or x.delays i 0 + delay_to c i x.state) 0 room

-- A job that goes on keeps its task running.
pub served_running : (c : Setting) (i : ℕ) (s : State) → finishes c i s ≡ false → (served c (Some i) s).running ≡ Some i
served_running c i s h = go (finishes c i s) h
  where
    go : (b : Bool) → b ≡ false → (settled_by b i (spent c i (switched c i s))).running ≡ Some i
    go true e = absurd (true≢false e)
    go false e = refl
