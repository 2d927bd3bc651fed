use Rattle.std.proofs.Common.{ℕ, true, false, ◌∙◌}
use Rattle.dispatch.specs.declared.candidates.Candidate.{Candidate}
use Rattle.schedule.proofs.JobRows.{row_placed}
use Rattle.schedule.proofs.jobs.JobTable.enter.Goals as goal
use Rattle.schedule.specs.JobTables.{row_of, slot_in}
use Rattle.schedule.specs.declared.slots.Slot.{Slot}

abbrev entered : ℕ → Slot
entered w = record { live = true; left = w; owed = 0; begun = false }

pub returns-clause-slots : goal.returns-clause-slots
returns-clause-slots c = row_placed slot_in _ _ _ (row_of (entered c.args.work) c.args.until) (c.set_delay.ensures.rows ∙ (rw c.shown.ensures at c.place.ensures.rows))

pub returns-clause-untils : goal.returns-clause-untils
returns-clause-untils c = row_placed (λ (r : Candidate). r.until) _ _ _ (row_of (entered c.args.work) c.args.until) (c.set_delay.ensures.rows ∙ (rw c.shown.ensures at c.place.ensures.rows))
