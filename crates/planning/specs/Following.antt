-- How a run is followed until it can be reported. Assumes nothing.
--     FreeOf l          no row of the log l is written, and it has room
--     Followed c x      a run of c that shows x has had some life, and was not decided before
use Rattle.std.specs.Prelude.{◌≡◌, ℕ, ◌<◌, ◌≤◌, true, []}
use Rattle.planning.specs.Runs.{Lived}
use Rattle.row_log.specs.Entries.{entries, room}
use Rattle.row_log.specs.declared.journal.Log.{Log}
use Rattle.run.specs.Runs.{Shown}
use Rattle.schedule.specs.States.{Setting}
use Rattle.standing.specs.Standings.{is_open, standing_at}

pub record FreeOf {R : Type 0} (l : Log R) : Type 0 where
  pub none : entries l ≡ []
  pub some : 0 < room l

pub record Followed (c : Setting) (x : Shown) : Type 0 where
  pub lived : Lived c x
  pub near : x.clock ≤ 20000000
  pub undecided : (u : ℕ) → u < x.clock → is_open (standing_at c u) ≡ true
