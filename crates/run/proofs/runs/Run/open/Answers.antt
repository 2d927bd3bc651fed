use Rattle.std.proofs.Common.{List, length, take, sym, ap, ◌∙◌, subst}
use Rattle.laws.proofs.Plans.{admitted_plan}
use Rattle.run.proofs.Beginning.{first_row_summaries, first_standing, first_summaries, first_watch, first_within}
use Rattle.run.proofs.runs.Run.open.Goals as goal
use Rattle.run.specs.Counts.{Within}
use Rattle.run.specs.Followers.{clock_in, followed}
use Rattle.schedule.specs.Schedules.{from, summaries}
use Rattle.schedule.specs.States.{Setting}
use Rattle.schedule.specs.Tables.{plan_of}
use Rattle.schedule.specs.declared.summaries.Summary.{Summary}
use Rattle.standing.specs.declared.standings.Standing.TheVariants.{Open}

pub compare-requires : goal.compare-requires
compare-requires g c =
    let f = c.new-follower.result in
    let made = c.new-follower.ensures in
    let watch = c.new-watch.ensures in
    first_watch (followed f) (clock_in f) c.new-watch.result made.clock
    (watch.period ∙ ap (λ (z : Setting). z.hyperperiod) (sym made.setting))
    (watch.next ∙ ap from (sym made.setting))
    watch.number watch.earlier

pub invariant_of-result : goal.invariant_of-result
invariant_of-result g c =
    let f = c.new-follower.result in
    let made = c.new-follower.ensures in
    let few = (admitted_plan (plan_of f.schedule) (followed f).rule (followed f).profile).few in
    record {
      watching = c.compare.ensures.watching;
      decided = first_standing (followed f) (clock_in f) made.clock;
      counted = ap (take (length (followed f).tasks)) c.new.ensures ∙ first_row_summaries (followed f) (clock_in f) made.clock few;
      within = subst (λ (ys : List Summary). Within (clock_in f) ys) (sym c.new.ensures) (first_within 16 (clock_in f));
    }

pub returns-clause-shown : goal.returns-clause-shown
returns-clause-shown g c =
    let f = c.new-follower.result in
    let none =
    ap (summaries (followed f)) c.new-follower.ensures.clock
    ∙ first_summaries (followed f) (admitted_plan (plan_of f.schedule) (followed f).rule (followed f).profile)
    in
    λ i. record { clock = c.new-follower.ensures.clock i; standing = Open; summaries = none i }
