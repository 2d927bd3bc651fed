use Rattle.std.proofs.Common.{◌-◌, ℕ, set, refl, sym, ap, ◌∙◌}
use Rattle.std.proofs.Math.ListN.{get_or-map}
use Rattle.std.proofs.Math.Seq.{map-set_same}
use Rattle.std.proofs.lemmas.List.{map-set}
use Rattle.dispatch.specs.Rules.{absent}
use Rattle.dispatch.specs.declared.candidates.Candidate.{Candidate}
use Rattle.schedule.proofs.Eaches.{each_next}
use Rattle.schedule.proofs.jobs.JobTable.step.Goals as goal
use Rattle.schedule.specs.Each.{each}
use Rattle.schedule.specs.JobTables.{slot_in, untils_in}

pub loop-task-init : goal.loop-task-init
unfolding each
loop-task-init c = record { slots = refl; untils = refl; running = refl; delays = refl }

pub loop-task-preserved : goal.loop-task-preserved
loop-task-preserved c =
    let it = c.loop-task.self in
    let i = c.loop-task.task in
    let kept = c.loop-task.invariant in
    let until = ap (λ (n : ℕ). n - 1) (sym (get_or-map (λ (r : Candidate). r.until) it.rows i absent)) in
    record {
      slots = map-set_same slot_in it.rows i _ absent refl ∙ kept.slots;
      untils = map-set (λ (r : Candidate). r.until) it.rows i _ ∙ ap (set (untils_in it) i) (c.saturating_sub-row.ensures ∙ until) ∙ each_next 0 i (λ _ n. n - 1) _ _ kept.untils;
      running = kept.running;
      delays = kept.delays;
    }
