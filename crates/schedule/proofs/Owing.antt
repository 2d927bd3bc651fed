-- What jobs owe, and the delays answered to them, grow by one answer a tick at most.
use Rattle.std.proofs.Common.{◌≡◌, ℕ, ◌+◌, ◌≤◌, Bool, true, false, cond, eqb, List, get_or, set, Some, sym, subst, arith}
use Rattle.std.proofs.lemmas.Bool.{cond_both}
use Rattle.delay.specs.Marks.{zero_mark}
use Rattle.delay.specs.Profiles.{Profile}
use Rattle.delay.specs.declared.mark.Mark.{Mark}
use Rattle.schedule.proofs.Places.{placed_set}
use Rattle.schedule.specs.Jobs.{vacant}
use Rattle.schedule.specs.States.{Setting, State, slot_of}
use Rattle.schedule.specs.Ticks.{all_lost, answered, began, delay_to, is_running, resumed, served, settled, spent, switched, worked}

abbrev pub Small : Profile → Type 0
Small p = (i : ℕ) (k : Mark) → p.answer i k ≤ 4096

abbrev pub Owing : ℕ → State → Type 0
Owing b s = (i : ℕ) → (slot_of s i).owed ≤ b

module _ (c : Setting) (small : Small c.profile) where
  pub delay_small : (j : ℕ) (s : State) → delay_to c j s ≤ 4096
  delay_small j s = go (is_running s j) (slot_of s j).begun where
    go : (r b : Bool) → cond r 0 (cond b (answered c j s) 0) ≤ 4096
    go true b = omega arith
    go false true = small j _
    go false false = omega arith

  resumed_owing : (b j : ℕ) (s : State) → Owing b s → Owing (b + 4096) (resumed c j s)
  resumed_owing b j s h =
      let answer : answered c j s ≤ 4096 = small j (get_or (all_lost c j s) j zero_mark) in
      placed_set (λ _ v. v.owed ≤ b + 4096) vacant s.slots j _ (omega (arith, h j)) (λ i. omega (arith, h i))

  began_owing : (b j : ℕ) (s : State) → Owing b s → Owing (b + 4096) (began c j s)
  began_owing b j s h = placed_set (λ _ v. v.owed ≤ b + 4096) vacant s.slots j _ (omega (arith, h j)) (λ i. omega (arith, h i))

  switched_owing : (b j : ℕ) (s : State) → Owing b s → Owing (b + 4096) (switched c j s)
  switched_owing b j s h = go (is_running s j) (slot_of s j).begun where
    go : (r d : Bool) → Owing (b + 4096) (cond {A = State} r s (cond {A = State} d (resumed c j s) (began c j s)))
    go true d = λ i. omega (arith, h i)
    go false true = resumed_owing b j s h
    go false false = began_owing b j s h

  spent_owing : (b j : ℕ) (s : State) → Owing b s → Owing b (spent c j s)
  spent_owing b j s h = placed_set (λ _ v. v.owed ≤ b) vacant s.slots j (worked (slot_of s j)) (omega (arith, h j)) h

  settled_owing : (b j : ℕ) (s : State) → Owing b s → Owing b (settled j s)
  settled_owing b j s h =
      cond_both {A = State} (eqb (slot_of s j).left 0) _ _ (Owing b) (λ _. placed_set (λ _ v. v.owed ≤ b) vacant s.slots j vacant (omega arith) h) (λ _. h)

  pub served_owing : (b j : ℕ) (s z : State) → z ≡ served c (Some j) s → Owing b s → Owing (b + 4096) z
  served_owing b j s z e h =
      subst (Owing (b + 4096)) (sym e) (settled_owing (b + 4096) j (spent c j (switched c j s)) (spent_owing (b + 4096) j (switched c j s) (switched_owing b j s h)))

  pub charged_small : (b j : ℕ) (ds es : List ℕ) (s : State) → es ≡ set ds j (get_or ds j 0 + delay_to c j s) → ((i : ℕ) → get_or ds i 0 ≤ b) → (i : ℕ) → get_or es i 0 ≤ b + 4096
  charged_small b j ds es s e h i =
      rw e (placed_set (λ _ n. n ≤ b + 4096) 0 ds j (get_or ds j 0 + delay_to c j s) (omega (arith, h j, delay_small j s)) (λ i. omega (arith, h i)) i)
