-- Rows that pass: what has to hold of the bytes for admission to find nothing wrong.
use Rattle.std.proofs.Common.{◌≡◌, ℕ, zero, suc, ◌+◌, ◌*◌, ◌<◌, ◌≤◌, Bool, true, false, cond, List, [], ◌∷◌, ◌++◌, length, Some, None, Option, sym, refl, ap, ◌∙◌, subst, arith, length-drop}
use Rattle.std.proofs.lemmas.List.FromFn.{map-range_with_len_more}
use Rattle.std.proofs.lemmas.List.{map_push}
use Rattle.std.proofs.lemmas.Bool.{and_parts, and_from, cond-false, eq-eqb, le-ltb, not_from_true}
use Rattle.std.proofs.lemmas.Bool.Decides.{nat_tests}
use Rattle.plan.specs.declared.tasks.Task.{Task}
use Rattle.plan.specs.Admission.{row_checks, rows_checks}
use Rattle.plan.specs.Checks.{first_wrong}
use Rattle.plan.specs.Layout.{row_bytes, row_of, rows_of, spare_of}
use Rattle.plan.specs.Periods.{common, hyperperiod_limit}
use Rattle.plan.specs.Tasks.{all_of, lawful, periods, times_out_of_order, useful_not_evicting, zero_period}
use Rattle.plan.proofs.Commons.{common_found, common_pushed}
use Rattle.plan.proofs.RowsLaws.{row_passes}

passes : {F : Type 0} (w : Bool) (f : F) (o : Option F) → w ≡ false → o ≡ None → cond w (Some f) o ≡ None
passes w f o p q = cond-false w (Some f) o p ∙ q

pub all_pushed : {X : Type 0} (p : X → Bool) (xs : List X) (x : X) → all_of p (xs ++ (x ∷ [])) ≡ true → (all_of p xs ≡ true) × (p x ≡ true)
all_pushed p [] x e = (refl, (and_parts (p x) true e).0)
all_pushed p (y ∷ xs) x e =
    let s = and_parts (p y) (all_of p (xs ++ (x ∷ []))) e in
    let r = all_pushed p xs x s.1 in
    (and_from _ _ s.0 r.0, r.1)

-- what lawful says, rule by rule
rules_of : (t : Task) → lawful t ≡ true → (zero_period t ≡ false) × (times_out_of_order t ≡ false) × (useful_not_evicting t ≡ false)
rules_of t e = (grind (arith, nat_tests), grind (arith, nat_tests), grind (arith, nat_tests))

module _ (b : List ℕ) (h : ℕ) (some : 0 < h) (small : h ≤ hyperperiod_limit) where
  row_ok : (i : ℕ) → 29 * (i + 1) ≤ length b → spare_of (row_bytes b i) ≡ 0 → lawful (row_of b i) ≡ true → common h (periods (rows_of b (i + 1))) ≡ true → first_wrong (row_checks b i) ≡ None
  row_ok i long spare keeping shared =
      let rules = rules_of (row_of b i) keeping in
      let whole : 29 ≤ length (row_bytes b i) = omega (arith, length-drop (29 * i) b) in
      let found = common_found hyperperiod_limit h (periods (rows_of b (i + 1))) some small shared in
      passes _ _ _ (le-ltb _ _ whole)
      (passes _ _ _ (not_from_true _ (eq-eqb _ _ spare))
      (passes _ _ _ rules.0
      (passes _ _ _ rules.1
      (passes _ _ _ rules.2
      (passes _ _ _ (not_from_true _ found) refl)))))

  Passing : ℕ → Type 0
  Passing n =
      29 * n ≤ length b → ((i : ℕ) → i < n → spare_of (row_bytes b i) ≡ 0) → all_of lawful (rows_of b n) ≡ true → common h (periods (rows_of b n)) ≡ true → first_wrong (rows_checks b n) ≡ None

  pub rows_pass : (n : ℕ) → 29 * n ≤ length b → ((i : ℕ) → i < n → spare_of (row_bytes b i) ≡ 0) → all_of lawful (rows_of b n) ≡ true → common h (periods (rows_of b n)) ≡ true → first_wrong (rows_checks b n) ≡ None
  unfolding Passing
  rows_pass zero = λ long spares keeping shared. refl
  rows_pass (suc n) =
      let next : n + 1 ≡ suc n = omega arith in
      let split = map-range_with_len_more (row_of b) 0 n n (omega arith) in
      subst Passing next
      (λ long spares keeping shared.
      let kept = all_pushed lawful (rows_of b n) (row_of b n) (ap (all_of lawful) (sym split) ∙ keeping) in
      let fewer = common_pushed h (row_of b n).period (periods (rows_of b n)) (ap (common h) (sym (ap periods split ∙ map_push (λ t. t.period) (rows_of b n) (row_of b n))) ∙ shared) in
      row_passes b n
      (rows_pass n (omega arith) (λ i l. spares i (omega arith)) kept.0 fewer.0)
      (row_ok n long (spares n (omega arith)) kept.1 shared))
