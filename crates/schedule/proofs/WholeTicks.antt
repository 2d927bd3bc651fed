-- The steps of a tick, put together.
use Rattle.std.proofs.Common.{◌≡◌, ℕ, List, [], Option, ap, ◌∙◌}
use Rattle.delay.specs.declared.mark.Mark.{Mark}
use Rattle.schedule.specs.Rows.{job_row, job_row_of, switch_row, switch_row_of}
use Rattle.schedule.specs.States.{Moment, Setting}
use Rattle.schedule.specs.Tables.{Passed, Ticked, moment_of, timed, unruled}
use Rattle.schedule.specs.Ticks.{charged, chosen, released, served, tick}
use Rattle.schedule.specs.declared.rows.TickRows.{TickRows}
use Rattle.schedule.specs.declared.ticking.Schedule.{Schedule}

-- the releases leave the marks alone
pub marks_aside : (c : Setting) (t : ℕ) (a b : Schedule) (ms : List Mark) → moment_of b [] ≡ released (timed c.tasks) t (moment_of a []) → moment_of b ms ≡ released c t (moment_of a ms)
marks_aside c t a b ms e = λ i. record {
  state = record { slots = (e i).state.slots; marks = ms; running = (e i).state.running };
  next = (e i).next;
  delays = (e i).delays;
}

-- what the steps after the releases did, which ask no policy, makes a whole tick
pub passed_ticked : (c : Setting) (t : ℕ) (x z : Moment) (o : Option ℕ) (rows : TickRows) → o ≡ chosen c t (released c t x) → Passed (unruled c.tasks c.profile) t o (released c t x) z rows → Ticked c t x z rows
unfolding tick switch_row job_row
passed_ticked c t x z o rows named passed =
    let r = released c t x in
    let state = passed.state ∙ ap (λ (v : Option ℕ). served c v r.state) named in
    let delays = passed.delays ∙ ap (λ (v : Option ℕ). charged c v r) named in
    record {
      after = λ i. record { state = state i; next = passed.next i; delays = delays i };
      switch = passed.switch ∙ ap (switch_row_of c t r) named;
      job = passed.job ∙ ap (job_row_of c t r) named;
    }
