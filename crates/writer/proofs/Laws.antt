-- What a buffer holds after a begin and after each row, and that it reads back.
use Rattle.std.proofs.Common.{◌≡◌, ℕ, zero, suc, ◌+◌, ◌*◌, ◌<◌, ◌≤◌, true, List, [], ◌∷◌, ◌++◌, map, length, take, None, Ok, sym, refl, ap, ◌∙◌, subst, ⊎_elim, eq-or-lt_of_le, arith, length-drop}
use Rattle.std.proofs.lemmas.List.FromFn.{map-range_with_len_more}
use Rattle.std.proofs.lemmas.List.{length-take-le, map_push}
use Rattle.std.proofs.lemmas.Bool.{cond-false, eq-eqb, le-ltb, not_from_true}
use Rattle.std.specs.List.{range_with_len}
use Rattle.bits.proofs.Layouts.{fields_at_same, fields_at_take}
use Rattle.plan.proofs.AdmissionLaws.{all_passed}
use Rattle.plan.proofs.Commons.{lcm_none, lcm_push}
use Rattle.plan.proofs.Encodings.{head_spells, row_at, row_spells}
use Rattle.plan.proofs.Passing.{rows_pass}
use Rattle.plan.proofs.RowsLaws.{all_push}
use Rattle.plan.specs.declared.tasks.Task.{Task}
use Rattle.plan.specs.Admission.{admission, head_checks, rows_checks}
use Rattle.plan.specs.Checks.{first_wrong}
use Rattle.plan.specs.Layout.{body, count_of, head_spare_of, head_widths, reload_of, revision_of, row_bytes, row_of, row_widths, rows_of, spare_of}
use Rattle.plan.specs.Periods.{IsLcm, Joins, common}
use Rattle.plan.specs.Tasks.{all_of, lawful, periods}
use Rattle.writer.specs.declared.token.PlanWriter.{PlanWriter}
use Rattle.writer.specs.Rules.{whole_bytes}
use Rattle.writer.specs.Written.{HeadOf, HeadWritten, RowWritten, Wrote}

pub begun_kept : (before after : List ℕ) (reload : ℕ) (w : PlanWriter) → w.next ≡ 0 → w.hyperperiod.ticks ≡ 1 → whole_bytes w.count ≤ length before → HeadWritten before after w.count reload → Wrote w after reload []
begun_kept before after reload w n h room written = record {
  head = written.head;
  room = omega (arith, written.size);
  rows = ap (rows_of (body after)) n;
  spares = λ i l. absurd (omega arith);
  keeping = refl;
  repeating = subst (λ (z : ℕ). IsLcm z []) (sym h) lcm_none;
}

-- two buffers with the same first bytes have the same rows there
same_rows_before : (after before : List ℕ) (n i : ℕ) → take (2 + 29 * n) after ≡ take (2 + 29 * n) before → i < n
    → (row_of (body after) i ≡ row_of (body before) i) × (spare_of (row_bytes (body after) i) ≡ spare_of (row_bytes (body before) i))
same_rows_before after before n i e h =
    row_spells (row_bytes (body after) i) (row_of (body before) i) (spare_of (row_bytes (body before) i))
    (row_at after i row_widths ∙ (fields_at_same after before (2 + 29 * n) (16 + 232 * i) row_widths e (omega arith) ∙ sym (row_at before i row_widths)))

map_counting_same : {X : Type 0} (f g : ℕ → X) (n : ℕ) → ((i : ℕ) → i < n → f i ≡ g i) → map f (range_with_len 0 n) ≡ map g (range_with_len 0 n)
map_counting_same f g zero h = refl
map_counting_same f g (suc n) h =
    let next : suc n ≡ n + 1 = omega arith in
    let left = ap (λ (z : ℕ). map f (range_with_len 0 z)) next ∙ map-range_with_len_more f 0 n n (omega arith) in
    let right = ap (λ (z : ℕ). map g (range_with_len 0 z)) next ∙ map-range_with_len_more g 0 n n (omega arith) in
    let before = map_counting_same f g n (λ i l. h i (omega arith)) in
    let here = h n (omega arith) in
    cc

pub row_kept : (before after : List ℕ) (w v : PlanWriter) (t : Task) (reload : ℕ) (ts : List Task)
    → v.count ≡ w.count → v.next ≡ w.next + 1 → Joins v.hyperperiod.ticks w.hyperperiod.ticks t.period → lawful t ≡ true
    → RowWritten before after w.next t → Wrote w before reload ts → Wrote v after reload (ts ++ (t ∷ []))
row_kept before after w v t reload ts c n joins keeping written wrote =
    let i = w.next in
    let here = row_spells (row_bytes (body after) i) t 0 written.row in
    let earlier = λ (j : ℕ) (h : j < i). same_rows_before after before i j written.front h in
    let old : rows_of (body after) i ≡ ts = map_counting_same (row_of (body after)) (row_of (body before)) i (λ j h. (earlier j h).0) ∙ wrote.rows in
    let all : rows_of (body after) (i + 1) ≡ ts ++ (t ∷ []) =
    map-range_with_len_more (row_of (body after)) 0 i i (omega arith) ∙ (ap (λ (z : List Task). z ++ (row_of (body after) i ∷ [])) old ∙ ap (λ (z : Task). ts ++ (z ∷ [])) here.0) in
    record {
      head = subst (λ (z : ℕ). HeadOf after z reload) (sym c) (fields_at_same after before (2 + 29 * i) 0 head_widths written.front (omega arith) ∙ wrote.head);
      room = omega (arith, written.size, wrote.room, c);
      rows = ap (rows_of (body after)) n ∙ all;
      spares =
          λ j h.
          ⊎_elim
          (λ same. ap (λ (z : ℕ). spare_of (row_bytes (body after) z)) same ∙ here.1)
          (λ below. (earlier j below).1 ∙ wrote.spares j below)
          (eq-or-lt_of_le (let le : j ≤ i = omega (arith, n) in le));
      keeping = all_push lawful ts t wrote.keeping keeping;
      repeating =
          subst (IsLcm v.hyperperiod.ticks) (sym (map_push (λ x. x.period) ts t))
          (lcm_push w.hyperperiod.ticks t.period v.hyperperiod.ticks (periods ts) wrote.repeating joins);
    }

-- the first bytes of a buffer, as long as the plan
module _ (w : PlanWriter) (done : w.next ≡ w.count) (b : List ℕ) (reload : ℕ) (ts : List Task) (wrote : Wrote w b reload ts) where
  abbrev pub plan : List ℕ
  plan = take (whole_bytes w.count) b

  plan_size : length plan ≡ whole_bytes w.count
  plan_size = length-take-le (whole_bytes w.count) b wrote.room

  plan_head : (revision_of plan ≡ 1) × (count_of plan ≡ w.count) × (reload_of plan ≡ reload) × (head_spare_of plan ≡ 0)
  plan_head = head_spells plan 1 w.count reload 0 w.some (fields_at_take b (whole_bytes w.count) 0 head_widths (omega arith) ∙ wrote.head)

  plan_row : (i : ℕ) → i < w.count → (row_of (body plan) i ≡ row_of (body b) i) × (spare_of (row_bytes (body plan) i) ≡ spare_of (row_bytes (body b) i))
  plan_row i h =
      row_spells (row_bytes (body plan) i) (row_of (body b) i) (spare_of (row_bytes (body b) i))
      (row_at plan i row_widths ∙ (fields_at_take b (whole_bytes w.count) (16 + 232 * i) row_widths (omega arith) ∙ sym (row_at b i row_widths)))

  plan_rows : rows_of (body plan) w.count ≡ ts
  plan_rows =
      map_counting_same (row_of (body plan)) (row_of (body b)) w.count (λ i h. (plan_row i h).0) ∙ (ap (rows_of (body b)) (sym done) ∙ wrote.rows)

  body_size : length (body plan) ≡ 29 * w.count
  body_size = omega (arith, plan_size, length-drop 2 plan)

  head_passes : first_wrong (head_checks plan) ≡ None
  head_passes =
      let long : 2 ≤ length plan = omega (arith, plan_size) in
      cond-false _ _ _ (le-ltb _ _ long)
      ∙ (cond-false _ _ _ (not_from_true _ (eq-eqb _ _ plan_head.0)) ∙ cond-false _ _ _ (not_from_true _ (eq-eqb _ _ plan_head.3)))

  rows_passing : first_wrong (rows_checks (body plan) w.count) ≡ None
  rows_passing =
      rows_pass (body plan) w.hyperperiod.ticks w.hyperperiod.positive w.hyperperiod.limited w.count (omega (arith, body_size))
      (λ i h. (plan_row i h).1 ∙ wrote.spares i (omega (arith, done)))
      (ap (all_of lawful) plan_rows ∙ wrote.keeping)
      (ap (λ (z : List Task). common w.hyperperiod.ticks (periods z)) plan_rows ∙ wrote.repeating.1)

  pub read_back : admission plan ≡ Ok (record { reload = reload; tasks = ts })
  read_back =
      all_passed plan head_passes w.count (body plan) (sym plan_head.1) refl rows_passing reload ts
      (cond-false _ _ _ (le-ltb _ _ (let short : length (body plan) ≤ 29 * w.count = omega (arith, body_size) in short)))
      (sym plan_head.2) (sym plan_rows)
