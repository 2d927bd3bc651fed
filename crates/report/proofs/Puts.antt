-- How one text after another is put into a buffer. Assumes nothing.
use Rattle.std.proofs.Common.{◌≡◌, ℕ, ◌+◌, ◌-◌, ◌≤◌, List, [], ◌++◌, length, Ok, Err, Result, take, drop, sym, refl, ap, ◌∙◌, append_assoc, append-nil, arith, length-append}
use Rattle.std.proofs.lemmas.List.{drop-drop}
use Rattle.fault.specs.declared.Fault.{Fault}
use Rattle.report.specs.Buffers.{Put, Whole, Written}

-- two lists that agree from r on agree from any later place on
pub drop_further : (r s : ℕ) (xs ys : List ℕ) → r ≤ s → drop r ys ≡ drop r xs → drop s ys ≡ drop s xs
drop_further r s xs ys h e =
    let at-s : r + (s - r) ≡ s = omega arith in
    let to-ys = drop-drop (s - r) r ys in
    let to-xs = drop-drop (s - r) r xs in
    cc

pub put_none : (at : ℕ) (xs : List ℕ) → Put at [] xs xs at
put_none at xs = record { place = omega arith; front = sym (append-nil (take at xs)); rest = refl }

-- what is put after a text stands behind it
pub put_then : {at r s : ℕ} {a b xs ys zs : List ℕ} → Put at a xs ys r → Put r b ys zs s → Put at (a ++ b) xs zs s
put_then {at} {r} {s} {a} {b} {xs} {ys} {zs} p q = record {
  place = simp length-append (omega (arith, p.place, q.place));
  front = q.front ∙ (ap (λ (z : List ℕ). z ++ b) p.front ∙ append_assoc (take at xs) a b);
  rest = q.rest ∙ drop_further r s xs ys (omega (arith, q.place)) p.rest;
}

pub put_whole : {end : ℕ} {text xs ys : List ℕ} → Put 0 text xs ys end → length text ≤ length xs → Whole text xs ys end
put_whole p h = record { count = omega (arith, p.place); fits = omega (arith, h, p.place); front = p.front; rest = p.rest }

-- what is enough for one text is enough where more is said to be
pub written_within : (most all : ℕ) (text before after : List ℕ) (r : Result ℕ Fault) → most ≤ all → Written most text before after r → Written all text before after r
written_within most all text before after (Ok n) h w = w
written_within most all text before after (Err e) h w = record { cause = w.cause; short = w.short; small = omega (arith, w.small); same = w.same }
