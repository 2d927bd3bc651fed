use Rattle.std.proofs.Common.{ℕ, ◌≤◌, List, length, ap, ◌∙◌, subst, arith}
use Rattle.std.proofs.lemmas.List.{length-take}
use Rattle.planning.proofs.answering.answer.Goals as goal
use Rattle.planning.specs.Runs.{run_text}
use Rattle.report.proofs.Puts.{written_within}
use Rattle.report.specs.Buffers.{Written}
use Rattle.report.specs.Reports.{standing_text}
use Rattle.run.specs.Runs.{Shown}

pub returns-clause-report : goal.returns-clause-report
unfolding run_text
returns-clause-report g c =
    let run = c.follow.new.run in
    let setting = c.follow.ensures.setting ∙ c.open-run.ensures.setting in
    let text =
    (λ i. standing_text (c.standing.ensures.value i) (c.clock.ensures i) ((c.as_slice.ensures ∙ c.summaries-summaries.ensures.value) i))
    ∙ (ap (λ (z : Shown). standing_text z.standing z.clock z.summaries) c.follow.ensures.followed ∙ ap run_text setting)
    in
    let told = c.summaries-summaries.result in
    let few : length c.as_slice.result.now ≤ 16 = omega (arith, ap length c.as_slice.ensures, length-take told.count told.rows, told.few) in
    subst (λ (z : List ℕ). Written 1428 z c.args.out.now c.write_standing.new.out c.write_standing.result) text
    (written_within _ 1428 _ _ _ _ (omega (arith, few)) c.write_standing.ensures)
