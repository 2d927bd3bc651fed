-- The counts of a run are the summaries of the schedule, and they fit.
use Rattle.std.proofs.Common.{◌≡◌, ℕ, zero, suc, ◌+◌, ◌*◌, ◌-◌, ◌≤◌, max, Bool, true, false, cond, List, [], ◌∷◌, get_or, set, take, Some, None, Option, IfSome, refl, ap, sym, ◌∙◌, arith}
use Rattle.std.proofs.Math.Numerals.{add-one}
use Rattle.run.specs.Counts.{Within, counted}
use Rattle.run.specs.Written.{job_in, switch_in}
use Rattle.schedule.proofs.Owing.{Small, delay_small}
use Rattle.schedule.proofs.Places.{placed_set}
use Rattle.schedule.specs.Rows.{delayed, finished, no_summary, switch_row, switch_row_of}
use Rattle.schedule.specs.Schedules.{moment, row_summaries}
use Rattle.schedule.specs.States.{Moment, Setting}
use Rattle.schedule.specs.Ticks.{chosen, is_running, released}
use Rattle.schedule.specs.declared.rows.JobRow.{JobRow}
use Rattle.schedule.specs.declared.rows.SwitchRow.{SwitchRow}
use Rattle.schedule.specs.declared.rows.TickRows.{TickRows}
use Rattle.schedule.specs.declared.summaries.Summary.{Summary}

-- ---- places past the tasks have no part in it

take_changed : {X : Type 0} (f : X → X) (d : X) (n j : ℕ) (xs : List X) → take n (set xs j (f (get_or xs j d))) ≡ set (take n xs) j (f (get_or (take n xs) j d))
take_changed f d zero j xs = refl
take_changed f d (suc n) j [] = refl
take_changed f d (suc n) zero (x ∷ xs) = refl
take_changed f d (suc n) (suc j) (x ∷ xs) = ap (λ ys. x ∷ ys) (take_changed f d n j xs)

take_delayed : (n : ℕ) (o : Option SwitchRow) (ys : List Summary) → take n (delayed o ys) ≡ delayed o (take n ys)
take_delayed n None ys = refl
take_delayed n (Some r) ys = take_changed (λ (y : Summary). record { finished = y.finished; worst = y.worst; delay = y.delay + r.delay }) no_summary n r.task ys

take_finished : (n : ℕ) (o : Option JobRow) (ys : List Summary) → take n (finished o ys) ≡ finished o (take n ys)
take_finished n None ys = refl
take_finished n (Some r) ys = take_changed (λ (y : Summary). record { finished = y.finished + 1; worst = max y.worst (r.finish - r.release); delay = y.delay }) no_summary n r.task ys

pub row_summaries_on : (c : Setting) (t n : ℕ) (rows : TickRows) (ys : List Summary)
    → take n ys ≡ row_summaries c t → rows.switch ≡ switch_in c t → rows.job ≡ job_in c t → take n (counted rows ys) ≡ row_summaries c (t + 1)
unfolding row_summaries
row_summaries_on c t n rows ys h switch job =
    take_finished n rows.job (delayed rows.switch ys)
    ∙ (ap (finished rows.job) (take_delayed n rows.switch ys)
    ∙ ((λ i. finished (job i) (delayed (switch i) (h i))) ∙ ap (row_summaries c) (sym (add-one t))))

-- ---- every number fits

row_small : (c : Setting) → Small c.profile → (t : ℕ) (x : Moment) (o : Option ℕ) → IfSome (switch_row_of c t x o) (λ r. r.delay ≤ 4096)
row_small c small t x None = tt
row_small c small t x (Some j) = go (is_running x.state j) _ (delay_small c small j x.state)
  where
    go : (b : Bool) (m : ℕ) {d : ℕ} → d ≤ 4096 → IfSome {T = SwitchRow} (cond b None (Some (record { instant = t; task = j; job = m; delay = d }))) (λ r. r.delay ≤ 4096)
    go true m h = tt
    go false m h = h

pub switch_small : (c : Setting) → Small c.profile → (t : ℕ) → IfSome (switch_in c t) (λ r. r.delay ≤ 4096)
unfolding switch_row
switch_small c small t = row_small c small t (released c t (moment c t)) (chosen c t (released c t (moment c t)))

within_delayed : (t : ℕ) (o : Option SwitchRow) (ys : List Summary) → IfSome o (λ r. r.delay ≤ 4096) → Within t ys
    → (i : ℕ) → ((get_or (delayed o ys) i no_summary).finished ≤ t) × ((get_or (delayed o ys) i no_summary).delay ≤ 4096 * (t + 1))
within_delayed t None ys few h = λ i. ((h i).0, omega (arith, (h i).1))
within_delayed t (Some r) ys few h =
    placed_set (λ _ y. (y.finished ≤ t) × (y.delay ≤ 4096 * (t + 1))) no_summary ys r.task _
    ((h r.task).0, omega (arith, (h r.task).1, few))
    (λ i. ((h i).0, omega (arith, (h i).1)))

within_finished : (t : ℕ) (o : Option JobRow) (ys : List Summary)
    → ((i : ℕ) → ((get_or ys i no_summary).finished ≤ t) × ((get_or ys i no_summary).delay ≤ 4096 * (t + 1))) → Within (t + 1) (finished o ys)
within_finished t None ys h = λ i. (omega (arith, (h i).0), (h i).1)
within_finished t (Some r) ys h =
    placed_set (λ _ y. (y.finished ≤ t + 1) × (y.delay ≤ 4096 * (t + 1))) no_summary ys r.task _
    (omega (arith, (h r.task).0), (h r.task).1)
    (λ i. (omega (arith, (h i).0), (h i).1))

pub within_on : (t : ℕ) (rows : TickRows) (ys : List Summary) → IfSome rows.switch (λ r. r.delay ≤ 4096) → Within t ys → Within (t + 1) (counted rows ys)
within_on t rows ys few h = within_finished t rows.job (delayed rows.switch ys) (within_delayed t rows.switch ys few h)
