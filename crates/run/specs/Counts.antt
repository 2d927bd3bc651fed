-- How the rows of a tick are counted. Assumes nothing.
--     counted rows ys       the summaries after a tick that wrote these rows, where they are ys before it
--     Small ys              no number of a summary is near its bound
--     Within t ys           what t ticks can have brought a summary to
use Rattle.std.specs.Prelude.{ℕ, ◌*◌, ◌<◌, ◌≤◌, ◌^◌, List, slice_index_or}
use Rattle.schedule.specs.Rows.{delayed, finished, no_summary}
use Rattle.schedule.specs.declared.rows.TickRows.{TickRows}
use Rattle.schedule.specs.declared.summaries.Summary.{Summary}

-- First the switch, then the finished job.
abbrev pub counted : TickRows → List Summary → List Summary
counted rows ys = finished rows.job (delayed rows.switch ys)

abbrev pub Small : List Summary → Type 0
Small ys = (i : ℕ) → ((slice_index_or ys i no_summary).finished < 2 ^ 63) × ((slice_index_or ys i no_summary).delay < 2 ^ 63)

-- At most one job finishes in a tick, and one delay is answered, of at most 4096 ticks.
abbrev pub Within : ℕ → List Summary → Type 0
Within t ys = (i : ℕ) → ((slice_index_or ys i no_summary).finished ≤ t) × ((slice_index_or ys i no_summary).delay ≤ 4096 * t)
