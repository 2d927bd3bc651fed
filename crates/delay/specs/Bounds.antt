-- No answer of a model is above 4096. Assumes nothing.
use Rattle.std.specs.Prelude.{◌≡◌, ℕ, zero, suc, ◌/◌, ◌<◌, ◌≤◌, min, Bool, true, List, [], ◌∷◌, slice_index_or}
use Rattle.std.proofs.Common.{arith}
use Rattle.std.proofs.lemmas.Nat.{mul-le}
use Rattle.std.proofs.lemmas.Bool.{and_parts}
use Rattle.std.proofs.lemmas.Bool.Decides.{nat_tests}
use Rattle.plan.specs.Admission.{Content}
use Rattle.plan.specs.Tasks.{all_of, lawful, zero_task}
use Rattle.plan.specs.declared.tasks.Task.{Task}
use Rattle.delay.specs.declared.mark.Mark.{Mark}
use Rattle.delay.specs.Lines.{count_below}
use Rattle.delay.specs.Models.{fixed_delay, useful_blocks, loaded_blocks, to_reload}
use Rattle.delay.specs.LineLaws.{bit_small}

-- ---- a lawful task's fixed delay fits twelve bits

row_delay : (t : Task) → lawful t ≡ true → t.fixed_delay < 4096
row_delay t h = grind (arith, nat_tests)

delay_small : (ts : List Task) (i : ℕ) → all_of lawful ts ≡ true → (slice_index_or ts i zero_task).fixed_delay < 4096
delay_small [] i h = omega arith
delay_small (t ∷ ts) zero h = row_delay t (and_parts _ _ h).0
delay_small (t ∷ ts) (suc i) h = delay_small ts i (and_parts (lawful t) _ h).1

pub fixed_bounded : (c : Content) (i : ℕ) (k : Mark) → all_of lawful c.tasks ≡ true → (fixed_delay c).answer i k ≤ 4096
fixed_bounded c i k h = grind (arith, nat_tests, delay_small c.tasks i h)

-- ---- no set has more than 64 lines, and no reload takes more than 63 ticks

few_below : (n : ℕ) (p : ℕ → Bool) → count_below n p ≤ n
unfolding count_below
few_below zero p = omega arith
few_below (suc n) p = omega (arith, few_below n p, bit_small (p n))

few_missing : (c : Content) (i : ℕ) (k : Mark) → to_reload c i k ≤ 64
few_missing c i k = few_below 64 _

pub useful_bounded : (c : Content) (i : ℕ) (k : Mark) → c.reload < 64 → (useful_blocks c).answer i k ≤ 4096
useful_bounded c i k h = mul-le (to_reload c i k) c.reload 64 64 (few_missing c i k) (omega arith)

pub loaded_bounded : (c : Content) (i : ℕ) (k : Mark) → c.reload < 64 → (loaded_blocks c).answer i k ≤ 4096
loaded_bounded c i k h =
    mul-le (min (to_reload c i k) (k.credit / c.reload)) c.reload 64 64 (omega (arith, few_missing c i k)) (omega arith)
