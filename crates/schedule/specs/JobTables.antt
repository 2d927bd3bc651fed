-- What a table of jobs says of each task. Assumes nothing.
--     slot_in r         the slot that the row r shows
--     row_of s n        the row that shows the slot s with n ticks until the deadline
--     slots_in b        the slots
--     untils_in b       the ticks until the deadlines of the live jobs
--     delays_in b       the delays answered so far to the live jobs
--     slot_at b i       the slot of task i
--     until_at b i      the ticks until the deadline of its live job
--     delay_at b i      the delay answered so far to its live job
use Rattle.std.specs.Prelude.{ℕ, List, map, slice_index, slice_index_or}
use Rattle.dispatch.specs.declared.candidates.Candidate.{Candidate}
use Rattle.schedule.specs.Jobs.{vacant}
use Rattle.schedule.specs.declared.jobs.JobTable.{JobTable}
use Rattle.schedule.specs.declared.slots.Slot.{Slot}

-- All that it shows but the ticks until the deadline.
abbrev pub slot_in : Candidate → Slot
slot_in r = record { live = r.live; left = r.left; owed = r.owed; begun = r.begun }

-- The other way round.
abbrev pub row_of : Slot → ℕ → Candidate
row_of s n = record { live = s.live; left = s.left; owed = s.owed; begun = s.begun; until = n }

-- Of all 16 places, by task number.
abbrev pub slots_in : JobTable → List Slot
slots_in b = map slot_in b.rows

-- In the same order.
abbrev pub untils_in : JobTable → List ℕ
untils_in b = map (λ (r : Candidate). r.until) b.rows

-- In the same order.
abbrev pub delays_in : JobTable → List ℕ
delays_in b = b.delays

-- No job is live in a place that there is not.
abbrev pub slot_at : JobTable → ℕ → Slot
slot_at b i = slice_index_or (slots_in b) i vacant

-- Zero there.
abbrev pub until_at : JobTable → ℕ → ℕ
until_at b i = slice_index (untils_in b) i

-- Zero there.
abbrev pub delay_at : JobTable → ℕ → ℕ
delay_at b i = slice_index (delays_in b) i
