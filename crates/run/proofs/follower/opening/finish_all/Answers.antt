use Rattle.std.proofs.Common.{◌<◌, ◌≤◌, get_or, length, refl, ap, sym, ◌∙◌, ⊎_elim, eq-or-lt_of_le, arith}
use Rattle.std.proofs.lemmas.List.{ext_get_or, get_or-replicate, get_or-set_other}
use Rattle.std.proofs.lemmas.Grind.{get_or-set_at}
use Rattle.delay.specs.Marks.{zero_mark}
use Rattle.run.proofs.follower.opening.finish_all.Goals as goal

pub loop-task-init : goal.loop-task-init
loop-task-init g c = record { same = refl; zero = λ i h. absurd (omega (arith, h)) }

pub loop-task-preserved : goal.loop-task-preserved
loop-task-preserved g c =
    let marks = g.M.DelayModel.marks c.loop-task.model in
    let there : c.loop-task.task < length marks = omega (arith, c.loop-task-test.true, g.met.M.DelayModel.sixteen c.loop-task.model) in
    record {
      same = c.finish.ensures.same ∙ c.loop-task.invariant.same;
      zero = λ i h.
          ap (λ ms. get_or ms i zero_mark) c.finish.ensures.after
          ∙ ⊎_elim
          (λ same. get_or-set_at marks c.loop-task.task i zero_mark zero_mark same there)
          (λ less. get_or-set_other marks c.loop-task.task i zero_mark zero_mark (omega (arith, less)) ∙ c.loop-task.invariant.zero i less)
          (eq-or-lt_of_le (let le : i ≤ c.loop-task.task = omega (arith, h) in le));
    }

pub returns-clause-zero : goal.returns-clause-zero
returns-clause-zero g c =
    ext_get_or zero_mark _ _ (g.met.M.DelayModel.sixteen c.loop-task.model)
    (λ i h. c.loop-task.invariant.zero i (omega (arith, h, g.met.M.DelayModel.sixteen c.loop-task.model, c.loop-task-test.false)) ∙ sym (get_or-replicate 16 i zero_mark zero_mark (omega (arith, h, g.met.M.DelayModel.sixteen c.loop-task.model))))
