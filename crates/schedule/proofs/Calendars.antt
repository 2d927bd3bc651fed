-- The instants that the calendar keeps, as a job is counted.
use Rattle.std.proofs.Common.{◌≡◌, ℕ, ◌+◌, ◌≤◌, zero, suc, true, List, [], ◌∷◌, map, replicate, length, get_or, refl, ap, ◌∙◌, arith}
use Rattle.std.proofs.lemmas.Bool.{and_parts}
use Rattle.plan.proofs.TaskTimes.{times_of}
use Rattle.plan.specs.Tasks.{all_of, lawful, zero_task}
use Rattle.plan.specs.declared.tasks.Task.{Task}
use Rattle.schedule.specs.Calendars.{next_job, no_job}
use Rattle.schedule.specs.Jobs.{deadline_at, live_job, release}
use Rattle.schedule.specs.declared.calendar.next_job.NextJob.{NextJob}

-- where job n comes next and is released at t, job n + 1 comes next after it
pub one_counted : (k : Task) (n r t p d : ℕ) → p ≡ k.period → d ≡ k.deadline → r ≡ release k n → t ≡ r → record { number = n + 1; release = r + p; live_deadline = t + d } ≡ next_job k (n + 1)
one_counted k n r t p d period deadline release_is now =
    let later : r + p ≡ release k (n + 1) = omega arith in
    let live : n ≡ live_job (n + 1) = omega arith in
    let end : t + d ≡ deadline_at k n = omega arith in
    λ i. record { number = n + 1; release = later i; live_deadline = (end ∙ ap (deadline_at k) live) i }

-- the deadline of job 0
pub first_near : (ks : List Task) (i : ℕ) → all_of lawful ks ≡ true → (next_job (get_or ks i zero_task) 0).live_deadline ≤ 2097152
first_near [] i h = omega arith
first_near (k ∷ ks) zero h = let times = times_of k (and_parts (lawful k) _ h).0 in omega arith
first_near (k ∷ ks) (suc i) h = first_near ks i (and_parts (lawful k) _ h).1

-- where each number is 0
pub numbers_zero : (js : List NextJob) → ((i : ℕ) → (get_or js i no_job).number ≡ 0) → map (λ (j : NextJob). j.number) js ≡ replicate (length js) 0
numbers_zero [] h = refl
numbers_zero (j ∷ js) h = λ k. h 0 k ∷ numbers_zero js (λ i. h (suc i)) k
