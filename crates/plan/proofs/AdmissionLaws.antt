-- From the checks of head, rows and end to the answer of admission.
use Rattle.std.proofs.Common.{◌≡◌, ℕ, List, ◌++◌, Some, None, Ok, Err, Option, sym, ap, ◌∙◌}
use Rattle.fault.specs.declared.Fault.{Fault}
use Rattle.plan.specs.declared.tasks.Task.{Task}
use Rattle.plan.specs.Admission.{head_checks, rows_checks, end_checks, checks, content_in, admission, unless}
use Rattle.plan.specs.Checks.{first_wrong}
use Rattle.plan.specs.Layout.{body, count_of, reload_of, rows_of}
use Rattle.plan.proofs.FirstWrong.{passed_before, wrong_before}

pub answered : (bs : List ℕ) (o : Option Fault) → first_wrong (checks bs) ≡ o → admission bs ≡ unless o (content_in bs)
answered bs o e = ap (λ (z : Option Fault). unless z (content_in bs)) e

-- A head that passed, with the count n and the bytes b after it.
module _ (bs : List ℕ) (head : first_wrong (head_checks bs) ≡ None) (n : ℕ) (b : List ℕ) (counted : n ≡ count_of bs) (after : b ≡ body bs) where
  past_head : first_wrong (checks bs) ≡ first_wrong (rows_checks b n ++ end_checks b n)
  past_head =
      passed_before (head_checks bs) (rows_checks (body bs) (count_of bs) ++ end_checks (body bs) (count_of bs)) head
      ∙ sym (ap (λ (z : ℕ). first_wrong (rows_checks b z ++ end_checks b z)) counted ∙ ap (λ (z : List ℕ). first_wrong (rows_checks z (count_of bs) ++ end_checks z (count_of bs))) after)

  pub rows_refuse : (f : Fault) → first_wrong (rows_checks b n) ≡ Some f → admission bs ≡ Err f
  rows_refuse f e = answered bs (Some f) (past_head ∙ wrong_before (rows_checks b n) (end_checks b n) f e)

  -- Rows that passed as well.
  module _ (rows : first_wrong (rows_checks b n) ≡ None) where
    past_rows : first_wrong (checks bs) ≡ first_wrong (end_checks b n)
    past_rows = past_head ∙ passed_before (rows_checks b n) (end_checks b n) rows

    pub end_refuses : (f : Fault) → first_wrong (end_checks b n) ≡ Some f → admission bs ≡ Err f
    end_refuses f e = answered bs (Some f) (past_rows ∙ e)

    pub all_passed : (reload : ℕ) (ts : List Task) → first_wrong (end_checks b n) ≡ None → reload ≡ reload_of bs → ts ≡ rows_of b n → admission bs ≡ Ok (record { reload = reload; tasks = ts })
    all_passed reload ts e r t =
        answered bs None (past_rows ∙ e)
        ∙ (ap (λ (z : ℕ). Ok (record { reload = z; tasks = rows_of (body bs) (count_of bs) })) (sym r)
        ∙ ap (λ (z : List Task). Ok (record { reload = reload; tasks = z })) (sym (t ∙ (ap (rows_of b) counted ∙ ap (λ (z : List ℕ). rows_of z (count_of bs)) after))))
