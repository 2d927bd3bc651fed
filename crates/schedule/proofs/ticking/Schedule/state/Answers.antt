use Rattle.std.proofs.Common.{◌≡◌, get_or, sym, refl, ◌∙◌, arith, rules}
use Rattle.std.proofs.lemmas.List.{ext_get_or, length-map}
use Rattle.delay.specs.Marks.{zero_mark}
use Rattle.dispatch.proofs.Made.{made_at}
use Rattle.schedule.proofs.ticking.Schedule.state.Goals as goal
use Rattle.schedule.specs.JobTables.{slot_at, slot_in, slots_in}
use Rattle.schedule.specs.Jobs.{vacant}

pub returns : goal.returns
returns g c =
    let self = c.args.self.now in
    let model = c.args.model.now in
    let marks = g.M.DelayModel.marks model in
    let shown = c.from_fn.ensures.items in
    let marked = c.from_fn-2.ensures.items in
    let slots : c.from_fn.result ≡ slots_in self.jobs =
    ext_get_or vacant _ _ (shown.long ∙ sym (length-map self.jobs.rows slot_in ∙ self.jobs.sized))
    (λ k h. made_at (λ p. p.0.now ≡ self) (slot_at self.jobs) shown refl (λ p q i y s called. search rules) k vacant (omega (arith, h, shown.long)))
    in
    let kept : c.from_fn-2.result ≡ marks =
    ext_get_or zero_mark _ _ (marked.long ∙ sym (g.met.M.DelayModel.sixteen model))
    (λ k h. made_at (λ p. p.0.now ≡ model) (λ i. get_or marks i zero_mark) marked refl (λ p q i y s called. search rules) k zero_mark (omega (arith, h, marked.long)))
    in
    λ i. record { slots = slots i; marks = kept i; running = c.running.ensures i }
