use Rattle.std.proofs.Common.{◌≡◌, ℕ, get_or, length, take, refl, ap, ◌∙◌, arith, rules}
use Rattle.dispatch.proofs.Made.{made_at}
use Rattle.run.proofs.Truths.{admitted_run, worst_shown}
use Rattle.run.proofs.runs.Run.summaries.Goals as goal
use Rattle.run.specs.Followers.{clock_in}
use Rattle.run.specs.Runs.{setting_in}
use Rattle.schedule.proofs.Eaches.{each_made}
use Rattle.schedule.specs.Rows.{no_summary}
use Rattle.schedule.specs.Schedules.{age_in, aged, moment, with_ages}

pub returns-clause-value : goal.returns-clause-value
returns-clause-value g c =
    let self = c.args.self.now in
    let x = setting_in self in
    let t = clock_in self.follower in
    let made = c.from_fn.ensures.items in
    let few = (admitted_run self).few in
    let told = λ (i : ℕ). aged (age_in x t (moment x t) i) (get_or self.counts.rows i no_summary) in
    ap (λ (n : ℕ). take n c.from_fn.result) (ap length c.tasks.ensures)
    ∙ each_made no_summary (length x.tasks) (λ i y. aged (age_in x t (moment x t) i) y) self.counts.rows c.from_fn.result
    (omega (arith, few, self.counts.sized)) (omega (arith, few, made.long))
    (λ i l. made_at (λ p. p.0.now ≡ self) told made refl (λ p q i y s called. search rules) i no_summary (omega (arith, l, few)))
    ∙ ap (with_ages x t (moment x t)) self.counted

pub returns-clause-worst : goal.returns-clause-worst
returns-clause-worst g c = worst_shown c.args.self.now (g.met.P.Policy.lawful c.args.self.now.follower.policy)
