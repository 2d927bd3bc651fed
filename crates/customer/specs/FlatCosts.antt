-- A profile of one's own: each preemption costs the same. Assumes nothing.
--     seen_more n           one preemption more than n, of which at most 64 are counted
--     flat_delay cost n     what n preemptions cost
--     flat_cost cost        what each call makes of a mark, and what a resume answers
use Rattle.std.specs.Prelude.{ℕ, ◌+◌, ◌*◌, min}
use Rattle.delay.specs.Marks.{zero_mark}
use Rattle.delay.specs.Profiles.{Profile}

abbrev pub seen_more : ℕ → ℕ
seen_more n = min (n + 1) 64

-- A cost above 64 ticks counts as 64, so that no answer passes 4,096.
abbrev pub flat_delay : ℕ → ℕ → ℕ
flat_delay cost n = min n 64 * min cost 64

abbrev pub flat_cost : ℕ → Profile
flat_cost cost = record {
  begin = λ _ _. zero_mark;
  lose = λ _ _ k. record { kept = k.kept; credit = seen_more k.credit };
  spend = λ _ k. k;
  resume = λ _ _. zero_mark;
  answer = λ _ k. flat_delay cost k.credit;
}
