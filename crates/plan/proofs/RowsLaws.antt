-- The rows of a plan, one after another.
use Rattle.std.proofs.Common.{◌≡◌, ℕ, zero, suc, ◌+◌, ◌-◌, ◌<◌, max, Bool, true, List, [], ◌∷◌, ◌++◌, Some, None, sym, refl, ap, ◌∙◌, subst, zero-add, arith}
use Rattle.std.proofs.lemmas.Grind.{flat_map-append}
use Rattle.std.proofs.lemmas.List.FromFn.{map-range_with_len_more}
use Rattle.std.proofs.lemmas.List.{map_push}
use Rattle.std.proofs.lemmas.Bool.{and_from, and_parts}
use Rattle.std.specs.List.{range_with_len, flat_map}
use Rattle.fault.specs.declared.Fault.{Fault}
use Rattle.plan.specs.declared.tasks.Task.{Task}
use Rattle.plan.specs.Admission.{row_checks, rows_checks}
use Rattle.plan.specs.Checks.{first_wrong}
use Rattle.plan.specs.Layout.{row_of, rows_of}
use Rattle.plan.specs.Periods.{IsLcm}
use Rattle.plan.specs.Rows.{RowAdmitted, RowsAdmitted}
use Rattle.plan.specs.Tasks.{all_of, greatest, lawful, offsets, periods}
use Rattle.plan.proofs.Commons.{lcm_none}
use Rattle.plan.proofs.FirstWrong.{passed_before, wrong_before}

counting_split : (a m k n : ℕ) → n ≡ m + k → range_with_len a n ≡ range_with_len a m ++ range_with_len (a + m) k
counting_split a zero k n e =
    let same : n ≡ k = omega arith in
    let start : a + 0 ≡ a = omega arith in
    ap (range_with_len a) same ∙ ap (λ (z : ℕ). range_with_len z k) (sym start)
counting_split a (suc m) k zero e = absurd (omega arith)
counting_split a (suc m) k (suc n) e =
    let start : a + 1 + m ≡ a + suc m = omega arith in
    ap (λ (z : List ℕ). a ∷ z) (counting_split (a + 1) m k n (omega arith) ∙ ap (λ (z : ℕ). range_with_len (a + 1) m ++ range_with_len z k) start)

-- the checks of n rows are those of the first i, of row i, and of the others
pub rows_split : (b : List ℕ) (i k n : ℕ) → n ≡ i + suc k → rows_checks b n ≡ rows_checks b i ++ (row_checks b i ++ flat_map (row_checks b) (range_with_len (i + 1) k))
rows_split b i k n e =
    ap (flat_map (row_checks b)) (counting_split 0 i (suc k) n e ∙ ap (λ (z : ℕ). range_with_len 0 i ++ range_with_len z (suc k)) (zero-add i))
    ∙ flat_map-append (row_checks b) (range_with_len 0 i) (range_with_len i (suc k))

pub row_stops : (b : List ℕ) (i n : ℕ) (f : Fault) → i < n → first_wrong (rows_checks b i) ≡ None → first_wrong (row_checks b i) ≡ Some f → first_wrong (rows_checks b n) ≡ Some f
row_stops b i n f h p w =
    let rest = flat_map (row_checks b) (range_with_len (i + 1) (n - (i + 1))) in
    ap first_wrong (rows_split b i (n - (i + 1)) n (omega arith))
    ∙ (passed_before (rows_checks b i) (row_checks b i ++ rest) p ∙ wrong_before (row_checks b i) rest f w)

pub row_passes : (b : List ℕ) (i : ℕ) → first_wrong (rows_checks b i) ≡ None → first_wrong (row_checks b i) ≡ None → first_wrong (rows_checks b (i + 1)) ≡ None
row_passes b i p q =
    ap first_wrong (rows_split b i 0 (i + 1) (omega arith))
    ∙ (passed_before (rows_checks b i) (row_checks b i ++ []) p ∙ passed_before (row_checks b i) [] q)

greatest_push : (ns : List ℕ) (m : ℕ) → greatest (ns ++ (m ∷ [])) ≡ max (greatest ns) m
greatest_push [] m = omega arith
greatest_push (n ∷ ns) m = ap (max n) (greatest_push ns m) ∙ omega arith

pub all_push : {X : Type 0} (p : X → Bool) (xs : List X) (x : X) → all_of p xs ≡ true → p x ≡ true → all_of p (xs ++ (x ∷ [])) ≡ true
all_push p [] x e h = and_from _ _ h refl
all_push p (y ∷ xs) x e h =
    let s = and_parts (p y) (all_of p xs) e in
    and_from _ _ s.0 (all_push p xs x s.1 h)

pub rows_none : (b : List ℕ) (h : ℕ) → h ≡ 1 → RowsAdmitted b 0 [] 0 h
rows_none b h e = record {
  passed = refl;
  whole = omega arith;
  spelled = refl;
  keeping = refl;
  farthest = refl;
  repeating = subst (λ (z : ℕ). IsLcm z []) (sym e) lcm_none;
  limited = omega arith;
}

pub rows_more : (b : List ℕ) (i : ℕ) (ts us : List Task) (a c h n : ℕ) (t : Task) → RowsAdmitted b i ts a h → RowAdmitted b i t n → us ≡ ts ++ (t ∷ []) → c ≡ max a t.offset → RowsAdmitted b (i + 1) us c n
rows_more b i ts us a c h n t r s e m =
    let spelled : us ≡ rows_of b (i + 1) =
    e ∙ (ap (λ (z : List Task). z ++ (t ∷ [])) r.spelled ∙ (ap (λ (z : Task). rows_of b i ++ (z ∷ [])) s.spelled ∙ sym (map-range_with_len_more (row_of b) 0 i i (omega arith)))) in
    record {
      passed = row_passes b i r.passed s.passed;
      whole = s.whole;
      spelled = spelled;
      keeping = subst (λ (z : List Task). all_of lawful z ≡ true) (sym e) (all_push lawful ts t r.keeping s.keeping);
      farthest =
          m ∙ (ap (λ (z : ℕ). max z t.offset) r.farthest
          ∙ (sym (greatest_push (offsets ts) t.offset)
          ∙ (ap greatest (sym (map_push (λ x. x.offset) ts t)) ∙ ap (λ (z : List Task). greatest (offsets z)) (sym e))));
      repeating = subst (λ (z : List Task). IsLcm n (periods z)) (sym spelled) s.repeating;
      limited = s.limited;
    }
