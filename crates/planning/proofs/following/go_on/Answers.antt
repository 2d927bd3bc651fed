use Rattle.std.proofs.Common.{◌<◌, length, refl, sym, ap, ◌∙◌, subst, arith}
use Rattle.planning.proofs.Reaching.{led_clock, goes_on, moved_on, no_more, undecided_on}
use Rattle.planning.proofs.following.go_on.Goals as goal
use Rattle.planning.specs.Following.{Followed}
use Rattle.run.specs.Advances.{free}
use Rattle.run.specs.Lives.Life.{advanced, cleared}
use Rattle.run.specs.Runs.{shown}
use Rattle.schedule.specs.States.{Setting}
use Rattle.standing.specs.Standings.{is_open}

pub returns-clause-after : goal.returns-clause-after
returns-clause-after g c =
    let went = (c.in_ok-advance.ensures.answered).1 in
    let life = cleared (cleared (advanced _ c.advance.result c.requires.before.lived.1 c.advance.ensures.answered) refl) refl in
    subst (λ (z : Setting). Followed z (shown c.advance.new.self)) (sym c.advance.ensures.setting)
    (record {
      lived = (_, life);
      near = omega (arith, no_more went, led_clock went, c.clock.ensures, c.requires.early);
      undecided = undecided_on went c.requires.before.undecided;
    })

pub returns-clause-further : goal.returns-clause-further
returns-clause-further g c =
    let undecided = ap is_open (sym c.args.run.now.decided) ∙ c.requires.undecided in
    let jobs : 0 < free c.args.jobs.now = omega (arith, ap length c.requires.jobs.none, c.requires.jobs.some) in
    let switches : 0 < free c.args.switches.now = omega (arith, ap length c.requires.switches.none, c.requires.switches.some) in
    moved_on (c.in_ok-advance.ensures.answered).1 (goes_on _ _ _ undecided (omega (arith, c.clock.ensures, c.requires.early)) jobs switches)
