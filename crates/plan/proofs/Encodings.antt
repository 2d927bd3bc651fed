-- What the fields of head and rows say of the bytes, whatever stands around them.
use Rattle.std.proofs.Common.{◌≡◌, ℕ, zero, suc, ◌+◌, ◌-◌, ◌*◌, ◌<◌, ◌≤◌, not, eqb, ltb, List, [], ◌∷◌, ◌++◌, length, get_or, None, Ok, sym, ap, ◌∙◌, subst, ap₂, arith, length-drop}
use Rattle.bits.proofs.Layouts.{fields_at_part, same_spelled_from_fields, same_bytes, spelled_split}
use Rattle.bits.specs.Bits.{spelled}
use Rattle.bits.specs.Layouts.{Bytes, fields_at}
use Rattle.std.proofs.lemmas.List.FromFn.{get_or-map-range_with_len, length-map-range_with_len}
use Rattle.std.proofs.lemmas.Bool.{eqb-true, ltb-false, not-false}
use Rattle.std.specs.List.{range_with_len, flat_map}
use Rattle.plan.specs.declared.tasks.Task.{Task}
use Rattle.plan.specs.Admission.{Content, admission, byte_checks, checks, content_in, end_checks, head_checks, in_row, period_checks, row_checks, rows_checks}
use Rattle.plan.specs.Checks.{first_wrong}
use Rattle.plan.specs.Flaws.{rule_checks}
use Rattle.plan.proofs.FirstWrong.{both_passed, none_left, unless_ok}
use Rattle.plan.proofs.RowsLaws.{rows_split}
use Rattle.plan.specs.Layout.{body, count_of, head_spare_of, head_values, head_widths, reload_of, revision_of, row_bytes, row_of, row_values, row_widths, rows_of, spare_of, task_of}

-- a task by the values of its row
task_from : List ℕ → Task
task_from vs = record {
  offset = get_or vs 0 0;
  period = get_or vs 1 0;
  deadline = get_or vs 2 0;
  work = get_or vs 3 0;
  priority = get_or vs 4 0;
  fixed_delay = get_or vs 5 0;
  useful = record { lines = get_or vs 6 0 };
  evicting = record { lines = get_or vs 7 0 };
}

-- fields that hold a task spell it
pub row_spells : (r : List ℕ) (t : Task) (spare : ℕ) → fields_at r 0 row_widths ≡ row_values t spare → (task_of r ≡ t) × (spare_of r ≡ spare)
unfolding task_from
row_spells r t spare e = (ap task_from e, ap (λ (vs : List ℕ). get_or vs 8 0) e)

pub head_spells : (bs : List ℕ) (revision count reload spare : ℕ) → 1 ≤ count → fields_at bs 0 head_widths ≡ head_values revision count reload spare
    → (revision_of bs ≡ revision) × (count_of bs ≡ count) × (reload_of bs ≡ reload) × (head_spare_of bs ≡ spare)
head_spells bs revision count reload spare h e =
    let at : (k : ℕ) → get_or (fields_at bs 0 head_widths) k 0 ≡ get_or (head_values revision count reload spare) k 0 =
    λ k. ap (λ (vs : List ℕ). get_or vs k 0) e in
    let second : spelled bs 4 4 ≡ count - 1 = at 1 in
    (at 0, omega arith, at 2, at 3)

-- the fields of a row, by their place in the plan
pub row_at : (bs : List ℕ) (i : ℕ) (ws : List ℕ) → fields_at (row_bytes (body bs) i) 0 ws ≡ fields_at bs (16 + 232 * i) ws
row_at bs i ws =
    fields_at_part (body bs) (29 * i) 0 (8 * (29 * i)) ws (omega arith) ∙ fields_at_part bs 2 (8 * (29 * i)) (16 + 232 * i) ws (omega arith)

-- What passing the checks says of the bytes.
module _ (b : List ℕ) (n : ℕ) (passed : first_wrong (rows_checks b n) ≡ None) where
  row_passed : (i : ℕ) → i < n → first_wrong (byte_checks b i) ≡ None
  row_passed i h =
      let rest = flat_map (row_checks b) (range_with_len (i + 1) (n - (i + 1))) in
      let others = (both_passed (rows_checks b i) (row_checks b i ++ rest) (sym (ap first_wrong (rows_split b i (n - (i + 1)) n (omega arith))) ∙ passed)).1 in
      (both_passed (byte_checks b i) (rule_checks (in_row i) (row_of b i) ++ period_checks b i) (both_passed (row_checks b i) rest others).0).0

  row_whole : (i : ℕ) → i < n → 29 * (i + 1) ≤ length b
  row_whole i h =
      let long = ltb-false _ _ (none_left (ltb (length (row_bytes b i)) 29) _ _ (row_passed i h)).0 in
      omega (arith, length-drop (29 * i) b)

  row_spare : (i : ℕ) → i < n → spare_of (row_bytes b i) ≡ 0
  row_spare i h =
      let after = (none_left (ltb (length (row_bytes b i)) 29) _ _ (row_passed i h)).1 in
      eqb-true _ _ (not-false _ (none_left (not (eqb (spare_of (row_bytes b i)) 0)) _ _ after).0)

-- An admitted byte string: its checks and its content.
module _ (bs : List ℕ) (c : Content) (admitted : admission bs ≡ Ok c) where
  all_checked : first_wrong (checks bs) ≡ None
  all_checked = (unless_ok (first_wrong (checks bs)) c (content_in bs) (sym admitted)).0

  content_is : c ≡ content_in bs
  content_is = (unless_ok (first_wrong (checks bs)) c (content_in bs) (sym admitted)).1

  head_checked : first_wrong (head_checks bs) ≡ None
  head_checked = (both_passed (head_checks bs) (rows_checks (body bs) (count_of bs) ++ end_checks (body bs) (count_of bs)) all_checked).0

  rows_checked : first_wrong (rows_checks (body bs) (count_of bs)) ≡ None
  rows_checked =
      (both_passed (rows_checks (body bs) (count_of bs)) (end_checks (body bs) (count_of bs))
      (both_passed (head_checks bs) (rows_checks (body bs) (count_of bs) ++ end_checks (body bs) (count_of bs)) all_checked).1).0

  plan_length : length bs ≡ 2 + 29 * count_of bs
  plan_length =
      let long = ltb-false _ _ (none_left (ltb (length bs) 2) _ _ head_checked).0 in
      let whole = row_whole (body bs) (count_of bs) rows_checked (count_of bs - 1) (omega arith) in
      let ends =
      (both_passed (rows_checks (body bs) (count_of bs)) (end_checks (body bs) (count_of bs))
      (both_passed (head_checks bs) (rows_checks (body bs) (count_of bs) ++ end_checks (body bs) (count_of bs)) all_checked).1).1 in
      let short = ltb-false _ _ (none_left (ltb (29 * count_of bs) (length (body bs))) _ _ ends).0 in
      omega (arith, length-drop 2 bs)

  head_values_lem : fields_at bs 0 head_widths ≡ head_values 1 (count_of bs) (reload_of bs) 0
  head_values_lem =
      let after = (none_left (ltb (length bs) 2) _ _ head_checked).1 in
      let revision : revision_of bs ≡ 1 = eqb-true _ _ (not-false _ (none_left (not (eqb (revision_of bs) 1)) _ _ after).0) in
      let spare : head_spare_of bs ≡ 0 = eqb-true _ _ (not-false _ (none_left (not (eqb (head_spare_of bs) 0)) _ _ (none_left (not (eqb (revision_of bs) 1)) _ _ after).1).0) in
      let count : spelled bs 4 4 ≡ count_of bs - 1 = omega arith in
      ap₂ (λ (x y : ℕ). x ∷ spelled bs 4 4 ∷ spelled bs 8 6 ∷ y ∷ []) revision spare ∙ ap (λ (x : ℕ). 1 ∷ x ∷ spelled bs 8 6 ∷ 0 ∷ []) count

-- Two byte strings that are admitted as the same plan.
module _ (cs bs : List ℕ) (c : Content) (left : admission cs ≡ Ok c) (right : admission bs ≡ Ok c) where
  same_content : content_in cs ≡ content_in bs
  same_content = sym (content_is cs c left) ∙ content_is bs c right

  same_rows : rows_of (body cs) (count_of cs) ≡ rows_of (body bs) (count_of bs)
  same_rows = ap (λ (z : Content). z.tasks) same_content

  same_count : count_of cs ≡ count_of bs
  same_count =
      sym (length-map-range_with_len (row_of (body cs)) 0 (count_of cs)) ∙ (ap length same_rows ∙ length-map-range_with_len (row_of (body bs)) 0 (count_of bs))

  same_row : (i : ℕ) → i < count_of bs → row_of (body cs) i ≡ row_of (body bs) i
  same_row i h =
      sym (get_or-map-range_with_len (row_of (body cs)) 0 (count_of cs) i i (task_of []) (omega (arith, same_count)) (omega arith))
      ∙ (ap (λ (z : List Task). get_or z i (task_of [])) same_rows ∙ get_or-map-range_with_len (row_of (body bs)) 0 (count_of bs) i i (task_of []) h (omega arith))

  same_row_fields : (i : ℕ) → i < count_of bs → fields_at cs (16 + 232 * i) row_widths ≡ fields_at bs (16 + 232 * i) row_widths
  same_row_fields i h =
      let one = row_spare (body cs) (count_of cs) (rows_checked cs c left) i (omega (arith, same_count)) in
      let two = row_spare (body bs) (count_of bs) (rows_checked bs c right) i h in
      sym (row_at cs i row_widths) ∙ (ap₂ row_values (same_row i h) (one ∙ sym two) ∙ row_at bs i row_widths)

  same_head_fields : fields_at cs 0 head_widths ≡ fields_at bs 0 head_widths
  same_head_fields =
      head_values_lem cs c left
      ∙ (ap₂ (λ (n r : ℕ). head_values 1 n r 0) same_count (ap (λ (z : Content). z.reload) same_content) ∙ sym (head_values_lem bs c right))

  -- head and rows so far spell one number
  same_number : (k : ℕ) → k ≤ count_of bs → spelled cs 0 (16 + 232 * k) ≡ spelled bs 0 (16 + 232 * k)
  same_number zero h = same_spelled_from_fields cs bs 0 head_widths same_head_fields
  same_number (suc k) h =
      let more : 16 + 232 * suc k ≡ 16 + 232 * k + 232 = omega arith in
      let before = same_number k (omega arith) in
      let row = same_spelled_from_fields cs bs (16 + 232 * k) row_widths (same_row_fields k (omega arith)) in
      let one = spelled_split cs 0 (16 + 232 * k) 232 in
      let two = spelled_split bs 0 (16 + 232 * k) 232 in
      let start : 0 + (16 + 232 * k) ≡ 16 + 232 * k = omega arith in
      cc

  pub one_encoding : Bytes cs → Bytes bs → cs ≡ bs
  one_encoding p q =
      let size = plan_length cs c left in
      let other = plan_length bs c right in
      let bits : 16 + 232 * count_of bs ≡ 8 * length cs = omega (arith, same_count) in
      same_bytes cs bs p q (omega (arith, same_count)) (subst (λ (z : ℕ). spelled cs 0 z ≡ spelled bs 0 z) bits (same_number (count_of bs) (omega arith)))
