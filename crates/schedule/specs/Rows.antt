-- What a tick writes down: its switch, its finished job, and the summary of each task. Assumes nothing.
--     switch_row c t x      the switch row of tick t, where x is the moment before it, or none
--     finishes c j s        the job of j gets its last tick
--     job_row c t x         the job row of tick t, or none
--     no_summary            of a task of which nothing has been written down
--     summarized c t x ys   what the rows of tick t make of the summaries ys
use Rattle.std.specs.Prelude.{ℕ, ◌+◌, ◌-◌, max, Bool, cond, List, set, Some, None, Option, ◌==◌, slice_index, slice_index_or, slice_set}
use Rattle.schedule.specs.Jobs.{live_job, release}
use Rattle.schedule.specs.States.{Moment, Setting, State, next_of, slot_of, task_of}
use Rattle.schedule.specs.Ticks.{charged, chosen, delay_to, is_running, released, spent, switched}
use Rattle.schedule.specs.declared.rows.JobRow.{JobRow}
use Rattle.schedule.specs.declared.rows.SwitchRow.{SwitchRow}
use Rattle.schedule.specs.declared.summaries.Summary.{Summary}

-- Where the choice is o and x is the moment after the releases.
abbrev pub switch_row_of : Setting → ℕ → Moment → Option ℕ → Option SwitchRow
switch_row_of c t x None = None
switch_row_of c t x (Some j) =
    cond (is_running x.state j) None (Some (record { instant = t; task = j; job = live_job (next_of x j); delay = delay_to c j x.state }))

-- A tick that goes on with the running task, or idles, has none.
unfoldable pub switch_row : Setting → ℕ → Moment → Option SwitchRow
switch_row c t x = switch_row_of c t (released c t x) (chosen c t (released c t x))

-- Nothing is left of it after step 4.
abbrev pub finishes : Setting → ℕ → State → Bool
finishes c j s = (slot_of (spent c j (switched c j s)) j).left == 0

-- Where the choice is o and x is the moment after the releases.
abbrev pub job_row_of : Setting → ℕ → Moment → Option ℕ → Option JobRow
job_row_of c t x None = None
job_row_of c t x (Some j) =
    cond (finishes c j x.state)
    (Some (record {
      task = j;
      job = live_job (next_of x j);
      release = release (task_of c j) (live_job (next_of x j));
      finish = t + 1;
      delay = slice_index (charged c (Some j) x) j;
    }))
    None

-- A job that gets its last tick in tick t finishes at instant t + 1.
unfoldable pub job_row : Setting → ℕ → Moment → Option JobRow
job_row c t x = job_row_of c t (released c t x) (chosen c t (released c t x))

abbrev pub no_summary : Summary
no_summary = record { finished = 0; worst = 0; delay = 0 }

-- A delay counts when it is answered, whether or not the job finishes.
abbrev pub delayed : Option SwitchRow → List Summary → List Summary
delayed None ys = ys
delayed (Some r) ys =
    slice_set ys r.task (record { finished = (slice_index_or ys r.task no_summary).finished; worst = (slice_index_or ys r.task no_summary).worst; delay = (slice_index_or ys r.task no_summary).delay + r.delay })

-- A response time is finish minus release.
abbrev pub finished : Option JobRow → List Summary → List Summary
finished None ys = ys
finished (Some r) ys =
    set ys r.task
    (record {
      finished = (slice_index_or ys r.task no_summary).finished + 1;
      worst = max (slice_index_or ys r.task no_summary).worst (r.finish - r.release);
      delay = (slice_index_or ys r.task no_summary).delay;
    })

-- By the rows of the tick, and by nothing else.
abbrev pub summarized : Setting → ℕ → Moment → List Summary → List Summary
summarized c t x ys = finished (job_row c t x) (delayed (switch_row c t x) ys)
