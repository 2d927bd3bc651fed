use Rattle.std.proofs.Common.{◌≡◌, ℕ, take, ap, ◌∙◌, arith, rules}
use Rattle.plan.specs.Admission.{admission}
use Rattle.writer.proofs.Laws.{read_back}
use Rattle.writer.proofs.token.PlanWriter.finish.Goals as goal

pub returns : goal.returns
returns c =
    let done : c.args.self.next ≡ c.args.self.count = omega arith in (
      search rules,
      c.whole_bytes.ensures,
      λ b reload ts wrote. ap (λ (n : ℕ). admission (take n b)) c.whole_bytes.ensures ∙ read_back c.args.self done b reload ts wrote,
    )
