use Rattle.std.proofs.Common.{◌≡◌, rules}
use Rattle.std.specs.Option.{option_map_or}
use Rattle.std.specs.Prelude.{slice_get}
use Rattle.plan.specs.Plans.{tasks_in}
use Rattle.dispatch.proofs.Made.{made_at}
use Rattle.dispatch.proofs.Tables.{table_is}
use Rattle.dispatch.proofs.fixed_priority.FixedPriority.new.Goals as goal

pub returns : goal.returns
returns c =
    let ts = tasks_in c.args.plan.now in
    let made = c.from_fn-priorities.ensures.items in
    let each = made_at (λ p. p.0.now ≡ ts) (λ k. option_map_or (λ t. t.priority) (slice_get ts k) 0) made c.tasks-tasks.ensures (λ p q i y s called. search rules) in
    table_is ts _ made.long (search rules) each
