use Rattle.std.proofs.Common.{◌≡◌, ℕ, ◌≤◌, List, Option, IfSome, length, take, sym, ap, ◌∙◌, subst}
use Rattle.run.proofs.Counting.{row_summaries_on, switch_small, within_on}
use Rattle.run.proofs.Following.{standing_on}
use Rattle.run.proofs.runs.Run.step.Goals as goal
use Rattle.run.specs.Counts.{Within, counted}
use Rattle.run.specs.Followers.{clock_in, followed}
use Rattle.schedule.specs.Schedules.{row_summaries}
use Rattle.schedule.specs.States.{Setting}
use Rattle.schedule.specs.declared.rows.SwitchRow.{SwitchRow}
use Rattle.schedule.specs.declared.summaries.Summary.{Summary}
use Rattle.standing.specs.Standings.{moved, standing_at}

pub invariant_of-self : goal.invariant_of-self
invariant_of-self g c =
    let old = c.args.self.now in
    let x = followed old.follower in
    let t = clock_in old.follower in
    let made = c.tick-rows.ensures in
    let rows = c.tick-rows.result in
    let new = c.tick-rows.new.self in
    let ys = old.counts.rows in
    let few = subst (λ (o : Option SwitchRow). IfSome o (λ r. r.delay ≤ 4096)) (sym made.switch) (switch_small x (g.met.M.DelayModel.bounded old.follower.model) t) in
    let stood = subst (λ (z : Setting). old.standing ≡ standing_at z t) (sym made.setting) old.decided in
    let told = ap (take (length x.tasks)) c.count.ensures ∙ (row_summaries_on x t (length x.tasks) rows ys old.counted made.switch made.job ∙ ap (row_summaries x) (sym made.clock)) in
    record {
      watching = c.examine-event.ensures.watching;
      decided =
          c.see.ensures
          ∙ (ap (λ (u : ℕ). moved u old.standing c.examine-event.result) c.clock.ensures
          ∙ standing_on (followed new) t (clock_in new) old.standing c.examine-event.result stood c.examine-event.ensures.event made.clock);
      counted = subst (λ (z : Setting). take (length z.tasks) c.count.new.self.rows ≡ row_summaries z (clock_in new)) (sym made.setting) told;
      within =
          subst (λ (zs : List Summary). Within (clock_in new) zs) (sym c.count.ensures)
          (subst (λ (u : ℕ). Within u (counted rows ys)) (sym made.clock) (within_on t rows ys few old.within));
    }
