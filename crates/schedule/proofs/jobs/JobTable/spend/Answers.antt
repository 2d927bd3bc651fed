use Rattle.std.proofs.Common.{set, sym, ap, ◌∙◌}
use Rattle.std.proofs.Math.ListN.{get_or-map}
use Rattle.std.proofs.Math.Seq.{map-set_same}
use Rattle.std.proofs.lemmas.List.{map-set}
use Rattle.dispatch.specs.Rules.{absent}
use Rattle.dispatch.specs.declared.candidates.Candidate.{Candidate}
use Rattle.schedule.proofs.jobs.JobTable.spend.Goals as goal
use Rattle.schedule.specs.JobTables.{slot_in, slots_in}
use Rattle.schedule.specs.Ticks.{worked}

pub returns-clause-state : goal.returns-clause-state
returns-clause-state g c =
    let old = c.args.self.now in
    let slot = get_or-map slot_in old.rows c.args.task absent in
    let slots = map-set slot_in old.rows c.args.task c.work.new.row ∙ ap (set (slots_in old) c.args.task) (ap slot_in c.work.ensures ∙ ap worked (sym slot)) in
    λ i. record { slots = slots i; marks = c.spend.ensures.after i; running = old.running }

pub returns-clause-untils : goal.returns-clause-untils
returns-clause-untils g c =
    let old = c.args.self.now in
    map-set_same (λ (r : Candidate). r.until) old.rows c.args.task _ absent (ap (λ (r : Candidate). r.until) c.work.ensures)
