use Rattle.std.proofs.Common.{◌≡◌, set, ap, ◌∙◌}
use Rattle.dispatch.specs.Rules.{absent}
use Rattle.dispatch.specs.declared.candidates.Candidate.{Candidate}
use Rattle.schedule.proofs.JobRows.{row_placed}
use Rattle.schedule.proofs.jobs.JobTable.clear.Goals as goal
use Rattle.schedule.specs.JobTables.{slot_in}

pub returns-clause-slots : goal.returns-clause-slots
returns-clause-slots c =
    let zero = c.default.ensures in
    let none : c.default.result ≡ absent = λ k. record { live = zero.0 k; left = zero.1.0 k; owed = zero.1.1.0 k; begun = zero.1.1.1.0 k; until = zero.1.1.1.1 k } in
    row_placed slot_in _ _ _ absent (c.place.ensures.rows ∙ ap (set c.args.self.now.rows c.args.task) none)

pub returns-clause-untils : goal.returns-clause-untils
returns-clause-untils c = row_placed (λ (r : Candidate). r.until) _ _ _ _ c.place.ensures.rows ∙ ap (set _ c.args.task) c.default.ensures.1.1.1.1
