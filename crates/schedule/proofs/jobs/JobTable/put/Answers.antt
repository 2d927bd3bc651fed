use Rattle.std.proofs.Common.{set, ap, ◌∙◌}
use Rattle.std.proofs.lemmas.List.{set-get_or}
use Rattle.dispatch.specs.declared.candidates.Candidate.{Candidate}
use Rattle.schedule.proofs.JobRows.{row_placed}
use Rattle.schedule.proofs.jobs.JobTable.put.Goals as goal
use Rattle.schedule.specs.JobTables.{slot_in, untils_in}

pub returns-clause-slots : goal.returns-clause-slots
returns-clause-slots c = row_placed slot_in _ _ _ _ (rw c.shown.ensures at c.place.ensures.rows)

pub returns-clause-untils : goal.returns-clause-untils
returns-clause-untils c =
    let untils = untils_in c.args.self.now in
    row_placed (λ (r : Candidate). r.until) _ _ _ _ (rw c.shown.ensures at c.place.ensures.rows) ∙ ap (set untils c.args.task) c.until-until.ensures ∙ set-get_or untils c.args.task 0
