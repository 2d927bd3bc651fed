-- What the checks of one row say, and one row more.
use Rattle.std.proofs.Common.{◌≡◌, ℕ, ◌+◌, ◌*◌, ◌^◌, ◌≤◌, true, false, ltb, List, [], ◌∷◌, ◌++◌, length, Some, None, Ok, sym, ap, ◌∙◌, subst, arith, length-drop}
use Rattle.std.proofs.lemmas.List.FromFn.{map-range_with_len_more}
use Rattle.std.proofs.lemmas.List.{map_push}
use Rattle.std.proofs.lemmas.Bool.{and_from, lt-ltb, ltb-false, not_from_true, not_from_false, cond-true, cond-false}
use Rattle.std.proofs.lemmas.Bool.Decides.{nat_tests}
use Rattle.bits.proofs.Fields.{spelled_below_power}
use Rattle.bits.specs.Bits.{spelled}
use Rattle.fault.specs.declared.Cause.{Cause}
use Rattle.fault.specs.declared.Cause.TheVariants.{HyperperiodTooLong}
use Rattle.fault.specs.declared.Layer.TheVariants.{Plan}
use Rattle.plan.specs.declared.tasks.Task.{Task}
use Rattle.plan.specs.Checks.{first_wrong}
use Rattle.plan.specs.Flaws.{rule_checks}
use Rattle.plan.specs.Admission.{byte_checks, period_checks, row_checks, in_row, fault, unless}
use Rattle.plan.specs.Layout.{task_of, row_bytes, row_of, rows_of}
use Rattle.plan.specs.Periods.{common_up_to, hyperperiod_limit, IsLcm, Joins}
use Rattle.plan.specs.Rows.{RowAdmitted}
use Rattle.plan.proofs.Commons.{lcm_push, common_found, common_joined}
use Rattle.plan.proofs.FirstWrong.{none_left, passed_before, unless_ok}
use Rattle.plan.specs.Tasks.{fits_row, lawful, zero_period, times_out_of_order, useful_not_evicting, periods}

pub periods_more : (b : List ℕ) (i : ℕ) → periods (rows_of b (i + 1)) ≡ periods (rows_of b i) ++ ((row_of b i).period ∷ [])
periods_more b i =
    ap periods (map-range_with_len_more (row_of b) 0 i i (omega arith)) ∙ map_push (λ t. t.period) (rows_of b i) (row_of b i)

pub spelled_fits : (r : List ℕ) → fits_row (task_of r) ≡ true
spelled_fits r =
    let below : (first width : ℕ) → ltb (spelled r first width) (2 ^ width) ≡ true =
    λ first width. lt-ltb _ _ (spelled_below_power r first width) in
    and_from _ _ (and_from _ _ (and_from _ _ (and_from _ _ (and_from _ _ (and_from _ _ (and_from _ _
    (below 0 20) (below 20 20)) (below 40 20)) (below 60 20)) (below 80 8)) (below 88 12)) (below 100 64)) (below 164 64)

-- no rule is broken
pub rules_kept : {F : Type 0} (at : Cause → ℕ → F) (t : Task) → first_wrong (rule_checks at t) ≡ None → (zero_period t ≡ false) × (times_out_of_order t ≡ false) × (useful_not_evicting t ≡ false)
rules_kept at t e =
    let first = none_left (zero_period t) _ _ e in
    let second = none_left (times_out_of_order t) _ _ first.1 in
    (first.0, second.0, (none_left (useful_not_evicting t) _ _ second.1).0)

pub lawful_from : (t : Task) → fits_row t ≡ true → (zero_period t ≡ false) × (times_out_of_order t ≡ false) × (useful_not_evicting t ≡ false) → lawful t ≡ true
lawful_from t fits k = grind (arith, nat_tests)

-- A row whose bytes are in order and whose task keeps the rules.
module _ (b : List ℕ) (i : ℕ) (t : Task)
    (taken : Ok t ≡ unless (first_wrong (byte_checks b i)) (row_of b i))
    (kept : first_wrong (rule_checks (in_row i) t) ≡ None) where
  row_spelled : t ≡ row_of b i
  row_spelled = (unless_ok (first_wrong (byte_checks b i)) t (row_of b i) taken).1

  row_bytes_lem : first_wrong (byte_checks b i) ≡ None
  row_bytes_lem = (unless_ok (first_wrong (byte_checks b i)) t (row_of b i) taken).0

  row_rules : first_wrong (rule_checks (in_row i) (row_of b i)) ≡ None
  row_rules = subst (λ (z : Task). first_wrong (rule_checks (in_row i) z) ≡ None) row_spelled kept

  row_whole : 29 * (i + 1) ≤ length b
  row_whole =
      let long = ltb-false _ _ (none_left (ltb (length (row_bytes b i)) 29) _ _ row_bytes_lem).0 in
      omega (arith, length-drop (29 * i) b)

  row_lawful : lawful t ≡ true
  row_lawful = subst (λ (z : Task). lawful z ≡ true) (sym row_spelled) (lawful_from (row_of b i) (spelled_fits (row_bytes b i)) (rules_kept (in_row i) (row_of b i) row_rules))

  row_checked : first_wrong (row_checks b i) ≡ first_wrong (period_checks b i)
  row_checked =
      passed_before (byte_checks b i) (rule_checks (in_row i) (row_of b i) ++ period_checks b i) row_bytes_lem
      ∙ passed_before (rule_checks (in_row i) (row_of b i)) (period_checks b i) row_rules

  -- the periods up to this row are those before it and its own
  row_periods : periods (rows_of b i) ++ (t.period ∷ []) ≡ periods (rows_of b (i + 1))
  row_periods = ap (λ (z : Task). periods (rows_of b i) ++ (z.period ∷ [])) row_spelled ∙ sym (periods_more b i)

  module _ (h : ℕ) (before : IsLcm h (periods (rows_of b i))) where
    pub row_admitted : (n : ℕ) → Joins n h t.period → n ≤ hyperperiod_limit → RowAdmitted b i t n
    row_admitted n joins small =
        let repeating = subst (IsLcm n) row_periods (lcm_push h t.period n (periods (rows_of b i)) before joins) in
        let found = common_found hyperperiod_limit n (periods (rows_of b (i + 1))) joins.positive small repeating.1 in
        record {
          passed = row_checked ∙ cond-false _ _ _ (not_from_true _ found);
          whole = row_whole;
          spelled = row_spelled;
          keeping = row_lawful;
          repeating = repeating;
          limited = small;
        }

    pub row_too_long : common_up_to hyperperiod_limit (h ∷ t.period ∷ []) ≡ false → first_wrong (row_checks b i) ≡ Some (fault Plan HyperperiodTooLong (Some i) None)
    row_too_long none =
        let missing : common_up_to hyperperiod_limit (periods (rows_of b (i + 1))) ≡ false =
        ap (common_up_to hyperperiod_limit) (sym row_periods) ∙ (sym (common_joined hyperperiod_limit h t.period (periods (rows_of b i)) before) ∙ none) in
        row_checked ∙ cond-true _ _ _ (not_from_false _ missing)
