-- The profiles of the models, from what a plan says. Assumes nothing.
--     no_delay              nothing is remembered, and a resume costs nothing
--     lost_sign             what a mark keeps once its task has lost the core, under fixed delays: line 0 alone
--     fixed_delay c         a resume after a loss costs the fixed delay of the task
--     evicted c j k         the mark k without the lines that task j evicts
--     to_reload c i k       how many useful lines of task i its mark k does not keep
--     useful_delay c i k    the time to reload them
--     useful_blocks c       a resume reloads every useful line that was evicted
--     most_credit c i       the time to load all useful lines of task i
--     loaded_delay c i k    the time to reload the lines that are missing, as far as the credit goes
--     loaded_blocks c       a resume reloads no more lines than the ticks spent can have loaded
use Rattle.std.specs.Prelude.{ℕ, ◌+◌, ◌-◌, ◌*◌, ◌/◌, ◌^◌, min, cond, ◌==◌}
use Rattle.plan.specs.Admission.{Content}
use Rattle.delay.specs.declared.mark.Mark.{Mark}
use Rattle.delay.specs.Figures.{delay_of, useful_of, evicting_of}
use Rattle.delay.specs.Lines.{without, count_lines, missing}
use Rattle.delay.specs.Marks.{keeping}
use Rattle.delay.specs.Profiles.{Profile}

-- In the profiles k is the mark, i its task and j the task that it loses to.
abbrev pub no_delay : Profile
no_delay = record {
  begin = λ _ k. k;
  lose = λ _ _ k. k;
  spend = λ _ k. k;
  resume = λ _ k. k;
  answer = λ _ _. 0;
}

-- Where there is no cache to follow, the set is only a sign.
abbrev pub lost_sign : ℕ
lost_sign = 2 ^ 63

-- However often a task loses the core before it resumes, it pays once.
abbrev pub fixed_delay : Content → Profile
fixed_delay c = record {
  begin = λ _ k. k;
  lose = λ _ _ k. keeping lost_sign k;
  spend = λ _ k. k;
  resume = λ _ k. keeping 0 k;
  answer = λ i k. cond (k.kept.lines == lost_sign) (delay_of c i) 0;
}

-- A loss takes out what the task that gets the core may overwrite, and nothing else.
abbrev pub evicted : Content → ℕ → Mark → Mark
evicted c j k = keeping (without k.kept.lines (evicting_of c j)) k

abbrev pub to_reload : Content → ℕ → Mark → ℕ
to_reload c i k = missing (useful_of c i) k.kept.lines

abbrev pub useful_delay : Content → ℕ → Mark → ℕ
useful_delay c i k = to_reload c i k * c.reload

-- Losses add up: a line is missing if any task that was lost to has evicted it.
abbrev pub useful_blocks : Content → Profile
useful_blocks c = record {
  begin = λ i k. keeping (useful_of c i) k;
  lose = λ _ j k. evicted c j k;
  spend = λ _ k. k;
  resume = λ i k. keeping (useful_of c i) k;
  answer = λ i k. useful_delay c i k;
}

abbrev pub most_credit : Content → ℕ → ℕ
most_credit c i = count_lines (useful_of c i) * c.reload

-- Only whole lines count. The last factor makes it 0 where a reload takes no time, whatever the quotient is there.
abbrev pub loaded_delay : Content → ℕ → Mark → ℕ
loaded_delay c i k = min (to_reload c i k) (k.credit / c.reload) * c.reload

-- A tick gives one of credit, up to what all useful lines are worth, and a resume takes what it answers.
abbrev pub loaded_blocks : Content → Profile
loaded_blocks c = record {
  begin = λ i _. record { kept = record { lines = useful_of c i }; credit = 0 };
  lose = λ _ j k. evicted c j k;
  spend = λ i k. record { kept = k.kept; credit = min (k.credit + 1) (most_credit c i) };
  resume = λ i k. record { kept = record { lines = useful_of c i }; credit = k.credit - loaded_delay c i k };
  answer = λ i k. loaded_delay c i k;
}
