-- What a policy names.
use Rattle.std.proofs.Common.{◌≡◌, ℕ, ◌<◌, ltb, List, length, Some, None, Option, IfSome, sym}
use Rattle.std.proofs.lemmas.Bool.{and_parts, ltb-true}
use Rattle.dispatch.specs.Rules.{NamesLive, Rule}
use Rattle.dispatch.specs.declared.candidates.Candidate.{Candidate}

-- a lawful rule names only a task that it is shown
pub named_known : (rule : Rule) → NamesLive rule → (rows : List Candidate) (running o : Option ℕ) → o ≡ rule rows running → IfSome o (λ j. j < length rows)
named_known rule h rows running None e = tt
named_known rule h rows running (Some j) e = ltb-true _ _ (and_parts (ltb j (length rows)) _ (h rows running j (sym e))).0
