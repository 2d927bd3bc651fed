use Rattle.std.proofs.Common.{◌<◌, arith, rules}
use Rattle.std.proofs.lemmas.List.Elements.{All-from_get_or}
use Rattle.plan.proofs.AdmissionLaws.{rows_refuse, end_refuses, all_passed}
use Rattle.plan.proofs.Encodings.{one_encoding}
use Rattle.plan.proofs.FirstWrong.{unless_err, unless_ok}
use Rattle.plan.proofs.admitted.admission.admit.Goals as goal

pub returns-in_err-tasks : goal.returns-in_err-tasks
returns-in_err-tasks c =
    let head = c.in_ok-head.ensures in
    let refused =
    rows_refuse c.args.bytes.now head.0 c.in_ok-head.head.count c.in_ok-head.body.now head.1.count head.1.after
    c.in_err-tasks.field-0.0 c.in_err-tasks.ensures in
    search rules

pub returns-in_err-end_after : goal.returns-in_err-end_after
returns-in_err-end_after c =
    let head = c.in_ok-head.ensures in
    let refused =
    end_refuses c.args.bytes.now head.0 c.in_ok-head.head.count c.in_ok-head.body.now head.1.count head.1.after
    c.in_ok-tasks.ensures.passed c.in_err-end_after.field-0.0 (unless_err _ _ _ c.in_err-end_after.ensures) in
    search rules

pub returns : goal.returns
returns c =
    let head = c.in_ok-head.ensures in
    let rows = c.in_ok-tasks.ensures in
    let answer =
    all_passed c.args.bytes.now head.0 c.in_ok-head.head.count c.in_ok-head.body.now head.1.count head.1.after
    rows.passed _ _ (unless_ok _ _ _ c.in_ok-end_after.ensures).0 head.1.reload rows.spelled in
    let bytes = All-from_get_or (λ b. b < 256) c.args.bytes.now 0 (λ i h. omega (arith, c.type_inv.bytes i)) in
    record { answer = answer; encoding = λ other p e. one_encoding other c.args.bytes.now _ e answer p bytes }
