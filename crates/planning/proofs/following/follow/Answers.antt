use Rattle.std.proofs.Common.{◌≡◌, [], refl, sym, ap, ◌∙◌, arith}
use Rattle.std.proofs.lemmas.Bool.{both_ways}
use Rattle.planning.proofs.Reaching.{reported}
use Rattle.planning.proofs.following.follow.Goals as goal
use Rattle.run.proofs.Going.{shows}
use Rattle.run.specs.Lives.Life.{opened}
use Rattle.run.specs.Runs.{Shown, shown}
use Rattle.standing.specs.Standings.{is_open}

pub loop-run-init : goal.loop-run-init
loop-run-init g c =
    let begun = ap (λ (x : Shown). x.clock) c.requires in
    record {
      setting = refl;
      followed = record {
        lived = ([], opened c.requires);
        near = omega (arith, begun);
        undecided = λ u l. absurd (omega (arith, begun, l));
      };
      jobs = record { none = c.over-jobs.ensures.entries; some = omega (arith, c.over-jobs.ensures.room) };
      switches = record { none = c.over-switches.ensures.entries; some = omega (arith, c.over-switches.ensures.room) };
    }

pub returns-else-clock-lt-LAST_REPORTED-clause-followed :
    goal.returns-else-clock-lt-LAST_REPORTED-clause-followed
returns-else-clock-lt-LAST_REPORTED-clause-followed g c =
    let run = c.loop-run.run in
    let kept = c.loop-run.invariant.followed in
    let last : (shown run).clock ≡ 20000000 = omega (arith, kept.near, c.clock.ensures, c.if-clock-lt-LAST_REPORTED.false) in
    reported kept (shows run) (λ e. last)

pub returns-after-loop-run-clause-followed : goal.returns-after-loop-run-clause-followed
returns-after-loop-run-clause-followed g c =
    let run = c.loop-run.run in
    let decided = ap is_open (sym run.decided) ∙ (ap is_open (sym c.standing.ensures.value) ∙ (sym c.is_open.ensures ∙ c.loop-run-test.false)) in
    reported c.loop-run.invariant.followed (shows run) (λ e. absurd (both_ways _ decided e))
