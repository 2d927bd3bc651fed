use Rattle.std.proofs.Common.{◌+◌, ◌<◌, sym, ap, ◌∙◌, subst, arith}
use Rattle.laws.proofs.Plans.{admitted_plan}
use Rattle.run.proofs.Sampling.{none_taken, one_shown, watching_on}
use Rattle.run.proofs.examining.compare.Goals as goal
use Rattle.run.specs.Followers.{clock_in, followed}
use Rattle.run.specs.Watches.{Watching, shown_by, taken_by}
use Rattle.run.specs.declared.watch.Watch.{Watch}
use Rattle.schedule.specs.Tables.{plan_of}
use Rattle.standing.specs.Standings.{compared}

pub returns-then-clock-next-clause-event : goal.returns-then-clock-next-clause-event
returns-then-clock-next-clause-event g c =
    let f = c.args.follower.now in
    let a = admitted_plan (plan_of f.schedule) (followed f).rule (followed f).profile in
    let due = sym c.clock.ensures ∙ (c.if-clock-next.true ∙ c.next.ensures) in
    c.take.ensures.event ∙ (ap (shown_by c.args.watch.now) c.state.ensures ∙ sym (one_shown (followed f) a (clock_in f) c.args.watch.now c.requires due))

pub returns-then-clock-next-clause-watching : goal.returns-then-clock-next-clause-watching
returns-then-clock-next-clause-watching g c =
    let f = c.args.follower.now in
    let a = admitted_plan (plan_of f.schedule) (followed f).rule (followed f).profile in
    let due = sym c.clock.ensures ∙ (c.if-clock-next.true ∙ c.next.ensures) in
    let made = c.take.ensures.after ∙ ap (taken_by c.args.watch.now) c.state.ensures in
    subst (λ (w : Watch). Watching (followed f) (clock_in f + 1) w) (sym made) (watching_on (followed f) a (clock_in f) c.args.watch.now c.requires due)

pub returns-else-clock-next-clause-event : goal.returns-else-clock-next-clause-event
returns-else-clock-next-clause-event g c =
    let f = c.args.follower.now in
    let a = admitted_plan (plan_of f.schedule) (followed f).rule (followed f).profile in
    let early : clock_in f < c.args.watch.now.next = omega (arith, c.requires.ahead, c.clock.ensures, c.next.ensures, c.if-clock-next.false) in
    sym (ap (compared (followed f)) (none_taken (followed f) a (clock_in f) c.args.watch.now c.requires early))
