-- The worked cases. Assumes nothing.
--     Case                  what is said of a schedule, of a delay model, or of the bytes of a plan
--     Misses, Holds, Shows, DifferInKept, DifferInRunning      what is right of a schedule
--     Right case            that it is so, in the words of the schedule, the models and admission
--     tally f w d           the summary of a task with f finished jobs, worst response w and total delay d
--     mark s n              the mark that keeps the lines s and has the credit n
--     plan_answer           the plan of the case of the loaded-blocks model
--     schedule_cases, model_cases, admission_cases      the cases by what they speak of
--     cases                 all of them
use Rattle.std.specs.Prelude.{◌≡◌, ℕ, ◌+◌, ◌*◌, List, [], ◌∷◌, ◌++◌, take, Some, None, Ok, Err, Option, ◌≢◌, slice_index_or}
use Rattle.delay.specs.Marks.{changed, keeping, zero_mark}
use Rattle.delay.specs.Models.{fixed_delay, loaded_blocks, useful_blocks}
use Rattle.delay.specs.Profiles.{Profile}
use Rattle.delay.specs.declared.mark.Mark.{Mark}
use Rattle.fault.specs.declared.Cause.{Cause}
use Rattle.fault.specs.declared.Cause.TheVariants.{EndsEarly, ExtraBytes}
use Rattle.fault.specs.declared.Layer.TheVariants.{Bytes}
use Rattle.plan.specs.Admission.{Content, admission, fault}
use Rattle.plan.specs.Periods.{IsLcm}
use Rattle.plan.specs.Tasks.{periods}
use Rattle.schedule.specs.declared.summaries.Summary.{Summary}
use Rattle.schedule.specs.Schedules.{FirstLate, OnTimeTo, from, sample, summaries}
use Rattle.schedule.specs.States.{Setting}
use Rattle.worked.specs.Settings.{by_deadline, by_priority, no_delays, non_preemptive, under}
use Rattle.worked.specs.WorkedPlans.{bytes_s, line, no_line, plan_credit, plan_kept, plan_nested, plan_next, plan_one, plan_running, plan_s, plan_two, task}

-- Of a schedule c, but for the last three. The first two are named for the report that says so.
pub data Case : Type 0 where
  -- c t i m ys: job m of task i is the first late job, at instant t, and ys are the summaries there
  misses : Setting → ℕ → ℕ → ℕ → List Summary → Case
  -- c t k i ys: sample k, at instant t, equals sample i, no job is late up to there, and ys are the summaries there
  holds : Setting → ℕ → ℕ → ℕ → List Summary → Case
  -- c t ys: no job is late up to instant t, and ys are the summaries there
  shows : Setting → ℕ → List Summary → Case
  -- c i k j a b: samples i and k are the same, but that task j keeps the lines a in the one and b in the other
  differ_in_kept : Setting → ℕ → ℕ → ℕ → ℕ → ℕ → Case
  -- c i k a b: samples i and k are the same, but that a is running in the one and b in the other
  differ_in_running : Setting → ℕ → ℕ → Option ℕ → Option ℕ → Case
  -- p i k d after: under the profile p, a resume of task i with the mark k answers d and leaves the mark `after`
  resumes : Profile → ℕ → Mark → ℕ → Mark → Case
  -- the bytes are admitted as this plan
  admitted : List ℕ → Content → Case
  -- the bytes are refused in layer B, with this cause, row and bit
  refused : List ℕ → Cause → Option ℕ → Option ℕ → Case

-- The hyperperiod of a setting is that of its tasks.
pub record Misses (c : Setting) (t i m : ℕ) (ys : List Summary) : Type 0 where
  pub hyperperiod : IsLcm c.hyperperiod (periods c.tasks)
  pub first : FirstLate c t i m
  pub summed : summaries c t ≡ ys

-- Nothing is late at the instant of the sample itself, either.
pub record Holds (c : Setting) (t k i : ℕ) (ys : List Summary) : Type 0 where
  pub hyperperiod : IsLcm c.hyperperiod (periods c.tasks)
  pub instant : t ≡ from c + k * c.hyperperiod
  pub equal : sample c k ≡ sample c i
  pub on_time : OnTimeTo c t
  pub summed : summaries c t ≡ ys

-- No job is late so far, and a run that comes so far shows them.
pub record Shows (c : Setting) (t : ℕ) (ys : List Summary) : Type 0 where
  pub on_time : OnTimeTo c t
  pub summed : summaries c t ≡ ys

-- All parts of a state are named, so nothing else differs.
pub record DifferInKept (c : Setting) (i k j a b : ℕ) : Type 0 where
  pub slots : (sample c i).slots ≡ (sample c k).slots
  pub running : (sample c i).running ≡ (sample c k).running
  pub before : (slice_index_or (sample c i).marks j zero_mark).kept.lines ≡ a
  pub after : (sample c k).marks ≡ changed (sample c i).marks j (keeping b)
  pub apart : a ≢ b

-- Here too.
pub record DifferInRunning (c : Setting) (i k : ℕ) (a b : Option ℕ) : Type 0 where
  pub slots : (sample c i).slots ≡ (sample c k).slots
  pub marks : (sample c i).marks ≡ (sample c k).marks
  pub before : (sample c i).running ≡ a
  pub after : (sample c k).running ≡ b
  pub apart : a ≢ b

-- By the definitions alone: no code of the planner has a part in it.
abbrev pub Right : Case → Type 0
Right (misses c t i m ys) = Misses c t i m ys
Right (holds c t k i ys) = Holds c t k i ys
Right (shows c t ys) = Shows c t ys
Right (differ_in_kept c i k j a b) = DifferInKept c i k j a b
Right (differ_in_running c i k a b) = DifferInRunning c i k a b
Right (resumes p i k d after) = (p.answer i k ≡ d) × (p.resume i k ≡ after)
Right (admitted bs c) = admission bs ≡ Ok c
Right (refused bs cause row bit) = admission bs ≡ Err (fault Bytes cause row bit)

-- In the order of a report's line.
abbrev pub tally : ℕ → ℕ → ℕ → Summary
tally f w d = record { finished = f; worst = w; delay = d }

-- Some lines, and a credit in ticks.
abbrev pub mark : ℕ → ℕ → Mark
mark s n = record { kept = record { lines = s }; credit = n }

-- One task with the useful lines 1 and 2, each of which takes 3 ticks to reload.
abbrev pub plan_answer : Content
plan_answer = record { reload = 3; tasks = task 0 9 9 1 0 0 (line 1 + line 2) (line 1 + line 2) ∷ [] }

-- Plan S under all sixteen orders, then the other plans.
abbrev pub schedule_cases : List Case
schedule_cases =
    holds (under (plan_s 0) 12 by_priority loaded_blocks) 13 1 0 (tally 2 2 0 ∷ tally 1 12 3 ∷ [])
    ∷ misses (under (plan_s 0) 12 by_priority useful_blocks) 12 1 0 (tally 2 2 0 ∷ tally 0 12 4 ∷ [])
    ∷ holds (under (plan_s 0) 12 by_priority no_delays) 13 1 0 (tally 2 2 0 ∷ tally 1 7 0 ∷ [])
    ∷ holds (under (plan_s 0) 12 by_priority fixed_delay) 13 1 0 (tally 2 2 0 ∷ tally 1 7 0 ∷ [])
    ∷ holds (under (plan_s 0) 12 (non_preemptive by_priority) no_delays) 13 1 0 (tally 2 6 0 ∷ tally 1 5 0 ∷ [])
    ∷ holds (under (plan_s 0) 12 (non_preemptive by_priority) fixed_delay) 13 1 0 (tally 2 6 0 ∷ tally 1 5 0 ∷ [])
    ∷ holds (under (plan_s 0) 12 (non_preemptive by_priority) useful_blocks) 13 1 0 (tally 2 6 0 ∷ tally 1 5 0 ∷ [])
    ∷ holds (under (plan_s 0) 12 (non_preemptive by_priority) loaded_blocks) 13 1 0 (tally 2 6 0 ∷ tally 1 5 0 ∷ [])
    ∷ holds (under (plan_s 0) 12 by_deadline no_delays) 13 1 0 (tally 2 2 0 ∷ tally 1 7 0 ∷ [])
    ∷ holds (under (plan_s 0) 12 by_deadline fixed_delay) 13 1 0 (tally 2 2 0 ∷ tally 1 7 0 ∷ [])
    ∷ holds (under (plan_s 0) 12 by_deadline useful_blocks) 13 1 0 (tally 2 4 0 ∷ tally 1 9 2 ∷ [])
    ∷ holds (under (plan_s 0) 12 by_deadline loaded_blocks) 13 1 0 (tally 2 3 0 ∷ tally 1 8 1 ∷ [])
    ∷ holds (under (plan_s 0) 12 (non_preemptive by_deadline) no_delays) 13 1 0 (tally 2 6 0 ∷ tally 1 5 0 ∷ [])
    ∷ holds (under (plan_s 0) 12 (non_preemptive by_deadline) fixed_delay) 13 1 0 (tally 2 6 0 ∷ tally 1 5 0 ∷ [])
    ∷ holds (under (plan_s 0) 12 (non_preemptive by_deadline) useful_blocks) 13 1 0 (tally 2 6 0 ∷ tally 1 5 0 ∷ [])
    ∷ holds (under (plan_s 0) 12 (non_preemptive by_deadline) loaded_blocks) 13 1 0 (tally 2 6 0 ∷ tally 1 5 0 ∷ [])
    ∷ misses (under (plan_s 3) 12 by_priority fixed_delay) 12 1 0 (tally 2 2 0 ∷ tally 0 12 6 ∷ [])
    ∷ holds (under plan_one 1 by_priority no_delays) 1 1 0 (tally 1 1 0 ∷ [])
    ∷ misses (under plan_two 1 by_priority no_delays) 1 1 0 (tally 1 1 0 ∷ tally 0 1 0 ∷ [])
    ∷ misses (under plan_nested 12 by_priority useful_blocks) 6 2 0 (tally 1 1 0 ∷ tally 1 3 0 ∷ tally 0 6 1 ∷ [])
    ∷ holds (under plan_next 4 by_priority useful_blocks) 4 1 0 (tally 2 1 0 ∷ tally 1 2 0 ∷ [])
    ∷ holds (under plan_credit 12 by_priority loaded_blocks) 16 1 0 (tally 1 1 0 ∷ tally 2 1 0 ∷ tally 1 10 4 ∷ [])
    ∷ misses (under plan_kept 8 by_priority useful_blocks) 16 3 1 (tally 2 3 0 ∷ tally 2 1 0 ∷ tally 3 2 0 ∷ tally 1 8 2 ∷ [])
    ∷ differ_in_kept (under plan_kept 8 by_priority useful_blocks) 0 1 3 (line 1) no_line
    ∷ misses (under plan_kept 8 by_priority loaded_blocks) 16 3 1 (tally 2 3 0 ∷ tally 2 1 0 ∷ tally 3 2 0 ∷ tally 1 8 2 ∷ [])
    ∷ holds (under plan_running 12 by_priority useful_blocks) 32 2 1 (tally 3 3 0 ∷ tally 3 1 0 ∷ tally 6 4 0 ∷ tally 2 10 2 ∷ [])
    ∷ differ_in_running (under plan_running 12 by_priority useful_blocks) 0 1 (Some 3) None
    ∷ shows (under (plan_s 0) 12 by_priority loaded_blocks) 1 (tally 0 0 0 ∷ tally 0 1 0 ∷ [])
    ∷ shows (under (plan_s 0) 12 by_priority loaded_blocks) 3 (tally 1 2 0 ∷ tally 0 3 0 ∷ [])
    ∷ shows (under (plan_s 0) 12 by_priority loaded_blocks) 10 (tally 2 2 0 ∷ tally 0 10 3 ∷ [])
    ∷ shows (under (plan_s 0) 12 by_priority loaded_blocks) 12 (tally 2 2 0 ∷ tally 1 12 3 ∷ [])
    ∷ []

-- Both useful lines are missing, and the credit is enough for one.
abbrev pub model_cases : List Case
model_cases = resumes (loaded_blocks plan_answer) 0 (mark no_line 5) 3 (mark (line 1 + line 2) 2) ∷ []

-- Ends early is refusal 1, extra bytes refusal 2.
abbrev pub admission_cases : List Case
admission_cases =
    refused [] EndsEarly None (Some 0)
    ∷ refused (take 59 bytes_s) EndsEarly (Some 1) (Some 472)
    ∷ admitted bytes_s (plan_s 0)
    ∷ refused (bytes_s ++ (0 ∷ [])) ExtraBytes None (Some 480)
    ∷ []

-- In the order of the page of worked cases.
abbrev pub cases : List Case
cases = schedule_cases ++ (model_cases ++ admission_cases)
