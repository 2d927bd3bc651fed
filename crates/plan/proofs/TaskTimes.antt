-- What the times of a lawful task are, in numbers.
use Rattle.std.proofs.Common.{◌≡◌, ℕ, zero, suc, ◌^◌, ◌<◌, ◌≤◌, true, List, [], ◌∷◌, length, get_or, arith}
use Rattle.std.proofs.lemmas.Bool.{and_parts}
use Rattle.std.proofs.lemmas.Bool.Decides.{nat_tests}
use Rattle.plan.specs.Tasks.{all_of, lawful}
use Rattle.plan.specs.declared.tasks.Task.{Task}

pub record Times (k : Task) : Type 0 where
  pub works : 1 ≤ k.work
  pub able : k.work ≤ k.deadline
  pub constrained : k.deadline ≤ k.period
  pub offset_small : k.offset < 2 ^ 20
  pub period_small : k.period < 2 ^ 20
  pub deadline_small : k.deadline < 2 ^ 20

pub times_of : (k : Task) → lawful k ≡ true → Times k
times_of k h = record {
  works = grind (arith, nat_tests);
  able = grind (arith, nat_tests);
  constrained = grind (arith, nat_tests);
  offset_small = grind (arith, nat_tests);
  period_small = grind (arith, nat_tests);
  deadline_small = grind (arith, nat_tests);
}

-- of each task of a plan
pub times_at : (ks : List Task) (i : ℕ) (d : Task) → all_of lawful ks ≡ true → i < length ks → Times (get_or ks i d)
times_at [] i d h l = absurd (omega arith)
times_at (k ∷ ks) zero d h l = times_of k (and_parts (lawful k) _ h).0
times_at (k ∷ ks) (suc i) d h l = times_at ks i d (and_parts (lawful k) _ h).1 (omega arith)
