-- How a text is taken part by part. Assumes nothing.
use Rattle.std.proofs.Common.{◌≡◌, ℕ, ◌+◌, ◌≤◌, List, [], ◌++◌, length, sym, ap, ◌∙◌, subst, append_assoc, append-nil, refl, arith, length-append}
use Rattle.report.specs.Sinks.{TookAll, Takes, Reaches}
use Rattle.report.specs.Sinks.TookAll.{nothing, further}

module _ {S : Type 0} {took : S → List ℕ → S → Type 0} where
  took_then : {a b : List ℕ} {s t u : S} → TookAll took s a t → TookAll took t b u → TookAll took s (a ++ b) u
  took_then {a} {s = s} {u = u} p nothing = subst (λ (z : List ℕ). TookAll took s z u) (sym (append-nil a)) p
  took_then {a} {s = s} {u = u} p (further {text = x} {piece = y} q r) =
      subst (λ (z : List ℕ). TookAll took s z u) (append_assoc a x y) (further (took_then p q) r)

  pub takes_piece : {most : ℕ} {piece text : List ℕ} {s t : S} → took s piece t → piece ≡ text → length piece ≤ most → Takes took most text s t
  takes_piece {most} {s = s} {t = t} p e h = subst (λ (z : List ℕ). Takes took most z s t) e (record { all = further nothing p; short = h })

  pub takes_then : {m n most : ℕ} {a b : List ℕ} {s t u : S} → Takes took m a s t → Takes took n b t u → m + n ≤ most → Takes took most (a ++ b) s u
  takes_then {a = a} {b = b} p q h = record { all = took_then p.all q.all; short = omega (arith, length-append a b, p.short, q.short) }

-- of the whole text all but its rest was taken, and the sink is as it was after at most `most` bytes
pub record TookUpTo {S : Type 0} (took : S → List ℕ → S → Type 0) (most : ℕ) (whole rest : List ℕ) (before after : S) : Type 0 where
  pub done : List ℕ
  pub part : Reaches took most done before after
  pub split : done ++ rest ≡ whole

module _ {S : Type 0} {took : S → List ℕ → S → Type 0} where
  pub reaches_taken : {most : ℕ} {text : List ℕ} {s t : S} → Takes took most text s t → Reaches took most text s t
  reaches_taken {text = text} p = record { all = p.all; part = text; enough = p }

  pub reaches_then : {m n most : ℕ} {a b : List ℕ} {s t u : S} → Reaches took m a s t → Reaches took n b t u → m + n ≤ most → Reaches took most (a ++ b) s u
  reaches_then p q h = record { all = took_then p.all q.all; part = p.part ++ q.part; enough = takes_then p.enough q.enough h }

  pub up_to_none : {most : ℕ} (whole : List ℕ) (s : S) → TookUpTo took most whole whole s s
  up_to_none whole s = record { done = []; part = reaches_taken (record { all = nothing; short = omega arith }); split = refl }

  -- the next part of the rest was taken
  pub up_to_more : {m n most : ℕ} {whole rest a left : List ℕ} {s t u : S} → TookUpTo took m whole rest s t → Reaches took n a t u
      → rest ≡ a ++ left → m + n ≤ most → TookUpTo took most whole left s u
  up_to_more {a = a} {left = left} p q e h = record {
    done = p.done ++ a;
    part = reaches_then p.part q h;
    split = append_assoc p.done a left ∙ (ap (λ (z : List ℕ). p.done ++ z) (sym e) ∙ p.split);
  }

  -- what no piece changes any more took the rest as well
  pub up_to_spent : {m most : ℕ} {whole rest : List ℕ} {s t : S} → TookUpTo took m whole rest s t → ((piece : List ℕ) → took t piece t) → m ≤ most
      → Reaches took most whole s t
  up_to_spent {rest = rest} {s = s} {t = t} p same h = record {
    all = subst (λ (z : List ℕ). TookAll took s z t) p.split (further p.part.all (same rest));
    part = p.part.part;
    enough = record { all = p.part.enough.all; short = omega (arith, h, p.part.enough.short) };
  }
