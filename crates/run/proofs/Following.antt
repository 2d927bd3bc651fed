-- A tick leads from the schedule's moment to its next one.
use Rattle.std.proofs.Common.{◌≡◌, ℕ, suc, ◌+◌, Some, None, Option, MatchOption, sym, ap, ◌∙◌, arith}
use Rattle.schedule.specs.Schedules.{moment}
use Rattle.schedule.specs.States.{Moment, Setting, start_moment}
use Rattle.schedule.specs.Ticks.{tick}
use Rattle.standing.specs.Standings.{examined, moved, standing_at}
use Rattle.standing.specs.declared.events.Event.{Event}
use Rattle.standing.specs.declared.standings.Standing.{Standing}

pub onward : (c : Setting) (t u : ℕ) (x y : Moment) → x ≡ moment c t → y ≡ tick c t x → u ≡ t + 1 → y ≡ moment c u
unfolding moment
onward c t u x y here made next =
    let step : suc t ≡ u = omega (arith, next) in
    made ∙ (ap (tick c t) here ∙ ap (moment c) step)

-- what follows in either case follows
pub either : {A N : Type 0} {S : A → Type 0} (o : Option A) (G : Type 0) → MatchOption o N S → (N → G) → ((a : A) → S a → G) → G
either None G h none some = none h
either (Some a) G h none some = some a h

-- the moment at an instant that is 0 is the first one
pub at_start : (c : Setting) (t : ℕ) (x : Moment) → t ≡ 0 → x ≡ start_moment → x ≡ moment c t
unfolding moment
at_start c t x begun first = first ∙ ap (moment c) (sym begun)

-- the standing at the next instant
pub standing_on : (c : Setting) (t u : ℕ) (s : Standing) (e : Event) → s ≡ standing_at c t → e ≡ examined c u → u ≡ t + 1 → moved u s e ≡ standing_at c u
unfolding standing_at
standing_on c t u s e stood shown next =
    let step : suc t ≡ u = omega (arith, next) in
    ap (moved u s) shown ∙ (ap (λ v. moved u v (examined c u)) stood ∙ (ap (λ (v : ℕ). moved v (standing_at c t) (examined c v)) (sym step) ∙ ap (standing_at c) step))
