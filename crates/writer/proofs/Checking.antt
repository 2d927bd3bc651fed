-- From the checks of a row's place, rules and common period to those of the whole row.
use Rattle.std.proofs.Common.{◌≡◌, ℕ, ◌≤◌, true, not, ltb, leb, ◌++◌, Some, None, ◌∙◌, arith}
use Rattle.std.proofs.lemmas.Bool.{cond-false, leb-false, ltb-false, not-false, not_from_true}
use Rattle.std.proofs.lemmas.Bool.Decides.{nat_tests}
use Rattle.fault.specs.declared.Fault.{Fault}
use Rattle.plan.proofs.Commons.{common_found, lcm_pair}
use Rattle.plan.proofs.FirstWrong.{none_left, passed_before}
use Rattle.plan.proofs.RowLaws.{lawful_from, rules_kept}
use Rattle.plan.specs.declared.tasks.Task.{Task}
use Rattle.plan.specs.Checks.{first_wrong}
use Rattle.plan.specs.Flaws.{rule_checks}
use Rattle.plan.specs.Periods.{Joins, hyperperiod_limit}
use Rattle.plan.specs.Tasks.{fits_row}
use Rattle.writer.specs.declared.token.PlanWriter.{PlanWriter}
use Rattle.writer.specs.Rules.{in_writer, period_checks, place_checks, row_checks, whole_bytes}
use Rattle.writer.specs.Written.{Fits, RowChecked}

fits_parts : (t : Task) → fits_row t ≡ true → Fits t
fits_parts t e = record {
  offset = grind (arith, nat_tests);
  period = grind (arith, nat_tests);
  deadline = grind (arith, nat_tests);
  work = grind (arith, nat_tests);
  delay = grind (arith, nat_tests);
}

module _ (w : PlanWriter) (t : Task) (room : ℕ) where
  module _ (placed : first_wrong (place_checks w t room) ≡ None) where
    past_place : first_wrong (row_checks w t room) ≡ first_wrong (rule_checks (in_writer w.next) t ++ period_checks w t)
    past_place = passed_before (place_checks w t room) (rule_checks (in_writer w.next) t ++ period_checks w t) placed

    pub period_refuses : (f : Fault) → first_wrong (rule_checks (in_writer w.next) t) ≡ None → first_wrong (period_checks w t) ≡ Some f → first_wrong (row_checks w t room) ≡ Some f
    period_refuses f kept e = past_place ∙ (passed_before (rule_checks (in_writer w.next) t) (period_checks w t) kept ∙ e)

    pub row_checked : (h : ℕ) → first_wrong (rule_checks (in_writer w.next) t) ≡ None → Joins h w.hyperperiod.ticks t.period → h ≤ hyperperiod_limit → RowChecked w t room h
    row_checked h kept joins small =
        let free = none_left (leb w.count w.next) _ _ placed in
        let space = none_left (ltb room (whole_bytes w.count)) _ _ free.1 in
        let fits = not-false _ (none_left (not (fits_row t)) _ _ space.1).0 in
        let rules = rules_kept (in_writer w.next) t kept in
        let found = common_found hyperperiod_limit h _ joins.positive small (lcm_pair h w.hyperperiod.ticks t.period joins).1 in
        record {
          passed = past_place ∙ (passed_before (rule_checks (in_writer w.next) t) (period_checks w t) kept ∙ cond-false _ _ _ (not_from_true _ found));
          free = leb-false _ _ free.0;
          space = ltb-false _ _ space.0;
          fits = fits_parts t fits;
          keeping = lawful_from t fits rules;
          joins = joins;
        }
