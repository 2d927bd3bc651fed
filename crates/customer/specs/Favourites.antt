-- A rule of one's own: one task goes before all others. Assumes nothing.
--     favourite f below     task f while its job is live, otherwise what the rule below says
use Rattle.std.specs.Prelude.{ℕ, cond, Some}
use Rattle.dispatch.specs.Rules.{Rule, live_at}

abbrev pub favourite : ℕ → Rule → Rule
favourite f below rows running = cond (live_at rows f) (Some f) (below rows running)
