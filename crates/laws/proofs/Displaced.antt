-- A task that keeps running loses the core only at a switch.
use Rattle.std.proofs.Common.{◌≡◌, ℕ, suc, true, false, Some, None, sym, refl, ap, ◌∙◌}
use Rattle.std.proofs.lemmas.Bool.{cond-false, ne_eqb}
use Rattle.schedule.specs.Rows.{job_row, switch_row, switch_row_of}
use Rattle.schedule.specs.Schedules.{moment, state_at}
use Rattle.schedule.specs.States.{Setting}
use Rattle.schedule.specs.Ticks.{delay_to, is_running, runs, tick}
use Rattle.laws.specs.Service.{SwitchTo, job_in, serves}
use Rattle.laws.proofs.Finishes.{goes_on}
use Rattle.laws.proofs.Serving.{served_running}
use Rattle.laws.proofs.Turns.{entry, serves_tells}

running_on : (c : Setting) (t i m : ℕ) → serves c t i m ≡ true → job_row c t (moment c t) ≡ None → (state_at c (suc t)).running ≡ Some i
unfolding moment tick
running_on c t i m h none =
    let core = (serves_tells c t i m h).0 in
    rw core (served_running c i (entry c t).state (goes_on c t i none core))

-- Releases change no running task, so the next choice is not the running one.
pub displaced_by_switch : (c : Setting) (t i m j n : ℕ) → serves c t i m ≡ true → job_row c t (moment c t) ≡ None → serves c (suc t) j n ≡ true → (j ≡ i → ⊥) → SwitchTo c (suc t) j n
unfolding switch_row
displaced_by_switch c t i m j n p none q other =
    let it = serves_tells c (suc t) j n q in
    let stopped : is_running (entry c (suc t)).state j ≡ false = ap (λ o. runs o j) (running_on c t i m p none) ∙ ne_eqb i j (λ e. other (sym e)) in
    record {
      row = record { instant = suc t; task = j; job = job_in c (suc t) j; delay = delay_to c j (entry c (suc t)).state };
      written = ap (switch_row_of c (suc t) (entry c (suc t))) it.0 ∙ cond-false (is_running (entry c (suc t)).state j) _ _ stopped;
      task = refl;
      job = it.1;
    }
