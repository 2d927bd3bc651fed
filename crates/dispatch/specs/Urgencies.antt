-- The most urgent task, found one task after another. Lemmas; assumes nothing.
--     first_none, first_some     where no number passes the test, and where one passes that none before it does
--     first_passes               the number that first_such names passes the test
--     Best n o                   o is the most urgent of the tasks below n, None where none of them is live
--     best_more                  so it stays with one task more, by better
--     best_is                    the best of all rows is most_urgent
--     found_one_by_one           most_urgent is better from the first task to the last
--     most_urgent_live           most_urgent names only a task with a live job
use Rattle.std.specs.Prelude.{◌≡◌, ℕ, zero, suc, ◌+◌, ◌<◌, ◌≤◌, Bool, true, false, cond, not, ◌||◌, List, length, Some, None, Option, fold, refl}
use Rattle.std.specs.List.{range_with_len}
use Rattle.std.proofs.Common.{sym, ap, subst, ◌∙◌, eq-or-lt_of_le, arith}
use Rattle.std.proofs.Math.Logic.{⊎_elim}
use Rattle.std.proofs.lemmas.Bool.{and_from, and_left, and_right, both_ways, cases_Bool, cond-false, cond-true, not_from_true, or_cases, or_from, or_left, or_right, and_parts}
use Rattle.plan.specs.Blocks.{every_below}
use Rattle.dispatch.specs.declared.candidates.Candidate.{Candidate}
use Rattle.dispatch.specs.Rules.{better, first_such, live_at, most_urgent, or_else}

-- ---- The first number of which a test holds.

pub first_none : (n : ℕ) (p : ℕ → Bool) → ((k : ℕ) → k < n → p k ≡ false) → first_such n p ≡ None
unfolding first_such
first_none zero p h = refl
first_none (suc n) p h =
    let before = first_none n p (λ k l. h k (omega arith)) in
    ap (λ (z : Option ℕ). or_else z (cond (p n) (Some n) None)) before ∙ cond-false (p n) (Some n) None (h n (omega arith))

pub first_some : (n j : ℕ) (p : ℕ → Bool) → j < n → p j ≡ true → ((k : ℕ) → k < j → p k ≡ false) → first_such n p ≡ Some j
unfolding first_such
first_some zero j p l e h = absurd (omega arith)
first_some (suc n) j p l e h =
    ⊎_elim
    (λ same.
    let before = first_none n p (λ k m. h k (omega arith)) in
    ap (λ (z : Option ℕ). or_else z (cond (p n) (Some n) None)) before
    ∙ (cond-true (p n) (Some n) None (subst (λ (z : ℕ). p z ≡ true) same e) ∙ ap Some (sym same)))
    (λ below. ap (λ (z : Option ℕ). or_else z (cond (p n) (Some n) None)) (first_some n j p below e h))
    (eq-or-lt_of_le (let le : j ≤ n = omega arith in le))

-- what first_such names passes the test
pub first_passes : (n j : ℕ) (p : ℕ → Bool) → first_such n p ≡ Some j → p j ≡ true
unfolding first_such
first_passes zero j p e = let clash : ◌≡◌ {A = ℕ} 0 1 = cc in absurd (omega arith)
first_passes (suc n) j p e = go (first_passes n j p) (first_such n p) refl (p n) refl e where
  go : (first_such n p ≡ Some j → p j ≡ true) → (o : Option ℕ) → first_such n p ≡ o → (b : Bool) → p n ≡ b → or_else o (cond b (Some n) None) ≡ Some j → p j ≡ true
  go before (Some i) f b g e = before (f ∙ e)
  go before None f true g e = let same : n ≡ j = cc in subst (λ (z : ℕ). p z ≡ true) same g
  go before None f false g e = let clash : ◌≡◌ {A = ℕ} 0 1 = cc in absurd (omega arith)

every_from : (n : ℕ) (p : ℕ → Bool) → ((k : ℕ) → k < n → p k ≡ true) → every_below n p ≡ true
unfolding every_below
every_from zero p h = refl
every_from (suc n) p h = and_from _ _ (every_from n p (λ k l. h k (omega arith))) (h n (omega arith))

every_fails : (n k : ℕ) (p : ℕ → Bool) → k < n → p k ≡ false → every_below n p ≡ false
unfolding every_below
every_fails zero k p l e = absurd (omega arith)
every_fails (suc n) k p l e =
    ⊎_elim
    (λ same. and_right (every_below n p) (p n) (subst (λ (z : ℕ). p z ≡ false) same e))
    (λ below. and_left (every_below n p) (p n) (every_fails n k p below e))
    (eq-or-lt_of_le (let le : k ≤ n = omega arith in le))

-- ---- The most urgent of the first n tasks.

module _ (urgent : ℕ → ℕ → Bool) (rows : List Candidate) where
  abbrev pub Best : ℕ → Option ℕ → Type 0
  Best n None = (k : ℕ) → k < n → live_at rows k ≡ false
  Best n (Some b) =
      (b < n) × (live_at rows b ≡ true) × ((k : ℕ) → k < n → live_at rows k ≡ true → urgent b k ≡ true) × ((k : ℕ) → k < b → live_at rows k ≡ true → urgent k b ≡ false)

  one_more : (n k : ℕ) (P : ℕ → Type 0) → k < n + 1 → ((j : ℕ) → j < n → P j) → P n → P k
  one_more n k P l below here =
      ⊎_elim (λ same. subst P (sym same) here) (λ less. below k less) (eq-or-lt_of_le (let le : k ≤ n = omega arith in le))

  module _ (total : (i k : ℕ) → (urgent i k || urgent k i) ≡ true) (through : (i j k : ℕ) → urgent i j ≡ true → urgent j k ≡ true → urgent i k ≡ true) where
    itself : (i : ℕ) → urgent i i ≡ true
    itself i = ⊎_elim (λ e. e) (λ e. e) (or_cases (urgent i i) (urgent i i) (total i i))

    pub best_more : (n : ℕ) (o : Option ℕ) → Best n o → Best (n + 1) (better urgent rows o n)
    best_more n None h = at (live_at rows n) refl where
      at : (b : Bool) → live_at rows n ≡ b → Best (n + 1) (cond b (Some n) None)
      at true e = (
        omega arith,
        e,
        λ k l live. one_more n k (λ z. live_at rows z ≡ true → urgent n z ≡ true) l (λ j m y. absurd (both_ways _ (h j m) y)) (λ _. itself n) live,
        λ k l live. absurd (both_ways _ (h k l) live),
      )
      at false e = λ k l. one_more n k (λ z. live_at rows z ≡ false) l h e
    best_more n (Some b) h = at (live_at rows n) refl (urgent b n) refl where
      at : (v : Bool) → live_at rows n ≡ v → (u : Bool) → urgent b n ≡ u → Best (n + 1) (cond v (cond u (Some b) (Some n)) (Some b))
      at true e true u = (
        (let le : b < n + 1 = omega (arith, h.0) in le),
        h.1,
        λ k l live. one_more n k (λ z. live_at rows z ≡ true → urgent b z ≡ true) l h.2 (λ _. u) live,
        h.3,
      )
      at true e false u =
          let ahead : urgent n b ≡ true = ⊎_elim (λ y. absurd (both_ways _ u y)) (λ y. y) (or_cases (urgent b n) (urgent n b) (total b n)) in (
            omega arith,
            e,
            λ k l live. one_more n k (λ z. live_at rows z ≡ true → urgent n z ≡ true) l (λ j m y. through n b j ahead (h.2 j m y)) (λ _. itself n) live,
            λ k l live. ⊎_elim (λ y. absurd (both_ways _ u (through b k n (h.2 k l live) y))) (λ y. y) (cases_Bool (urgent k n)),
          )
      at false e u v = (
        (let le : b < n + 1 = omega (arith, h.0) in le),
        h.1,
        λ k l live. one_more n k (λ z. live_at rows z ≡ true → urgent b z ≡ true) l h.2 (λ y. absurd (both_ways _ e y)) live,
        h.3,
      )

    best_after : (i n m : ℕ) (o : Option ℕ) → i + n ≡ m → Best i o → Best m (fold (better urgent rows) o (range_with_len i n))
    best_after i zero m o e h = subst (λ (z : ℕ). Best z o) (omega (arith, e)) h
    best_after i (suc n) m o e h = best_after (i + 1) n m (better urgent rows o i) (omega (arith, e)) (best_more i o h)

  pub best_is : (o : Option ℕ) → Best (length rows) o → most_urgent urgent rows ≡ o
  unfolding most_urgent
  best_is None h = first_none (length rows) _ (λ k l. and_left (live_at rows k) _ (h k l))
  best_is (Some b) h =
      first_some (length rows) b _ h.0
      (and_from _ _ h.1
      (every_from (length rows) _
      (λ k l.
      ⊎_elim
      (λ live. or_right (not (live_at rows k)) (urgent b k) (h.2 k l live))
      (λ dead. or_left (not (live_at rows k)) (urgent b k) (ap not dead))
      (cases_Bool (live_at rows k)))))
      (λ k l.
      ⊎_elim
      (λ live.
      and_right (live_at rows k) _
      (every_fails (length rows) b _ h.0 (or_from (not (live_at rows b)) (urgent k b) (not_from_true (live_at rows b) h.1) (h.3 k l live))))
      (λ dead. and_left (live_at rows k) _ dead)
      (cases_Bool (live_at rows k)))

-- by the two laws of an order of urgency
pub found_one_by_one : (urgent : ℕ → ℕ → Bool) (rows : List Candidate) → ((i k : ℕ) → (urgent i k || urgent k i) ≡ true) → ((i j k : ℕ) → urgent i j ≡ true → urgent j k ≡ true → urgent i k ≡ true) → fold (better urgent rows) None (range_with_len 0 (length rows)) ≡ most_urgent urgent rows
found_one_by_one urgent rows total through =
    let n = length rows in
    sym (best_is urgent rows _ (best_after urgent rows total through 0 n n None (omega arith) (λ k l. absurd (omega arith))))

pub most_urgent_live : (urgent : ℕ → ℕ → Bool) (rows : List Candidate) (j : ℕ) → most_urgent urgent rows ≡ Some j → live_at rows j ≡ true
unfolding most_urgent
most_urgent_live urgent rows j e = (and_parts (live_at rows j) _ (first_passes (length rows) j _ e)).0
