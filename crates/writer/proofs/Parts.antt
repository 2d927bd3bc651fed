-- A part of a buffer that was written anew.
use Rattle.std.proofs.Common.{◌≡◌, ℕ, ◌+◌, ◌*◌, ◌≤◌, List, ◌++◌, length, take, drop, sym, ◌∙◌, subst, arith, length-append, length-drop}
use borrow.Rule.Slice.PartMut.{put_mid, post_of}
use Rattle.std.proofs.lemmas.List.{length-take-le}
use Rattle.std.proofs.lemmas.Slice.{take-put_mid_below, drop-put_mid}
use Rattle.bits.proofs.Layouts.{fields_at_in_mid}
use Rattle.bits.specs.Layouts.{fields_at}
use Rattle.plan.proofs.Encodings.{row_at}
use Rattle.plan.specs.declared.tasks.Task.{Task}
use Rattle.plan.specs.Layout.{head_values, head_widths, row_values, row_widths}
use Rattle.writer.specs.Written.{HeadWritten, RowWritten}

length_written : (a k : ℕ) (xs ys : List ℕ) → a + k ≤ length xs → length ys ≡ k → length (put_mid a k xs ys) ≡ length xs
length_written a k xs ys h e =
    omega (arith, length-append (take a xs) (ys ++ post_of a k xs), length-append ys (post_of a k xs), length-take-le a xs (omega arith), length-drop k (drop a xs), length-drop a xs)

pub head_written : (xs ys : List ℕ) (n reload : ℕ) → length ys ≡ 2 → 2 ≤ length xs → fields_at ys 0 head_widths ≡ head_values 1 n reload 0 → HeadWritten xs (put_mid 0 2 xs ys) n reload
head_written xs ys n reload e h v = record {
  head = fields_at_in_mid 0 2 xs ys 0 0 head_widths (omega arith) (omega arith) (omega arith) ∙ v;
  rest = drop-put_mid 0 2 xs ys 2 (omega arith) (omega arith) e;
  size = length_written 0 2 xs ys h e;
}

row_written_at : (xs ys : List ℕ) (i k : ℕ) (t : Task) → k ≡ 29 → length ys ≡ k → 2 + 29 * (i + 1) ≤ length xs → fields_at ys 0 row_widths ≡ row_values t 0 → RowWritten xs (put_mid (2 + 29 * i) k xs ys) i t
row_written_at xs ys i k t e l h v = record {
  front = take-put_mid_below (2 + 29 * i) k xs ys (2 + 29 * i) (omega arith) (omega arith);
  row = row_at (put_mid (2 + 29 * i) k xs ys) i row_widths ∙ (fields_at_in_mid (2 + 29 * i) k xs ys (16 + 232 * i) 0 row_widths (omega arith) (omega arith) (omega arith) ∙ v);
  rest = drop-put_mid (2 + 29 * i) k xs ys (2 + 29 * (i + 1)) (omega arith) (omega arith) l;
  size = length_written (2 + 29 * i) k xs ys (omega arith) l;
}

pub row_written : (xs ys : List ℕ) (start i k : ℕ) (t : Task) → start ≡ 2 + 29 * i → k ≡ 29 → length ys ≡ k → 2 + 29 * (i + 1) ≤ length xs → fields_at ys 0 row_widths ≡ row_values t 0 → RowWritten xs (put_mid start k xs ys) i t
row_written xs ys start i k t s e l h v = subst (λ (z : ℕ). RowWritten xs (put_mid z k xs ys) i t) (sym s) (row_written_at xs ys i k t e l h v)
