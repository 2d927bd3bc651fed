use Rattle.std.proofs.Common.{◌≡◌, [], true}
use Rattle.schedule.proofs.Releases.{released_nothing}
use Rattle.schedule.proofs.ticking.Schedule.release.Goals as goal
use Rattle.schedule.specs.Tables.{clock_of, moment_of, tasks_of, timed}

pub returns-else-not-is_quiet-clause-moment : goal.returns-else-not-is_quiet-clause-moment
returns-else-not-is_quiet-clause-moment c =
    let old = c.args.self.now in
    let quiet : c.is_quiet.result ≡ true = cc in
    released_nothing (timed (tasks_of old)) (clock_of old) (moment_of old []) (c.is_quiet.ensures.releases quiet)
