use Rattle.std.proofs.Common.{ℕ, List, ap, sym, ◌∙◌, subst}
use Rattle.planning.proofs.Settings.{setting_is}
use Rattle.planning.proofs.whole.report_on.Goals as goal
use Rattle.planning.specs.Inputs.{TrueReportFor, answer_text}
use Rattle.planning.specs.Runs.{TrueReport, run_text}
use Rattle.report.specs.Buffers.{Written}

pub returns-in-Ok-clause-report : goal.returns-in-Ok-clause-report
returns-in-Ok-clause-report c =
    let request = c.in-Ok.request in
    let same = ap run_text (setting_is request.order request.plan) ∙ sym (ap answer_text c.in-Ok.ensures) in
    subst (λ (z : List ℕ). Written 1428 z c.args.out.now c.report.new.out c.report.result) same c.report.ensures.report

pub returns-in-Ok-clause-truth : goal.returns-in-Ok-clause-truth
returns-in-Ok-clause-truth c =
    let request = c.in-Ok.request in
    subst TrueReportFor (sym c.in-Ok.ensures) (subst TrueReport (setting_is request.order request.plan) c.report.ensures.truth)
