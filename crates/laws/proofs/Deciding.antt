-- The comparison of samples comes to an answer.
use mathlib.Core.List.{Memᴰ}
use Rattle.std.proofs.Common.{ℕ, sym, ◌∙◌, subst}
use Rattle.cycle.proofs.Compared.{compared_right}
use Rattle.cycle.proofs.Found.{found_soon}
use Rattle.cycle.specs.Comparisons.{compared_with}
use Rattle.cycle.specs.Theorems as cycle
use Rattle.schedule.specs.States.{Setting, State}
use Rattle.laws.specs.Bound.{Bound, FewStates}
use Rattle.laws.specs.Settings.{Admitted}
use Rattle.laws.proofs.Machines.{machine, machine_sample}

machine_few : (c : Setting) (a : Admitted c) (V : ℕ) → FewStates c V → cycle.Among (machine c a) V
machine_few c a V f = record {
  states = f.states;
  few = f.few;
  all = λ k. subst (λ s. Memᴰ s f.states) (sym (machine_sample c a k)) (f.all k);
}

pub bound : (c : Setting) → Admitted c → Bound c
bound c a V f =
    let found = found_soon State (machine c a) V (machine_few c a V f) in
    record {
      number = found.number;
      other = compared_with found.number;
      positive = found.positive;
      soon = found.soon;
      compared = compared_right found.number found.positive;
      equal = sym (machine_sample c a found.number) ∙ (found.equal ∙ machine_sample c a (compared_with found.number));
    }
