-- A decided standing stays, and an open one was open before.
use Rattle.std.proofs.Common.{◌≡◌, ℕ, zero, suc, ◌+◌, ◌-◌, ◌≤◌, true, false, refl, ap, ◌∙◌, ⊎_elim, arith}
use Rattle.std.proofs.lemmas.Bool.{both_ways, cases_Bool}
use Rattle.schedule.specs.States.{Setting}
use Rattle.standing.specs.Standings.{examined, is_open, moved, standing_at}
use Rattle.standing.specs.declared.events.Event.{Event}
use Rattle.standing.specs.declared.standings.Standing.{Standing}
use Rattle.standing.specs.declared.standings.Standing.TheVariants.{Open, Misses, Holds}

closed_unmoved : (t : ℕ) (s : Standing) (e : Event) → is_open s ≡ false → moved t s e ≡ s
closed_unmoved t Open e h = absurd (both_ways _ h refl)
closed_unmoved t (Misses u i m) e h = refl
closed_unmoved t (Holds u k p) e h = refl

pub closed_stays : (c : Setting) (t n : ℕ) → is_open (standing_at c t) ≡ false → standing_at c (t + n) ≡ standing_at c t
unfolding standing_at
closed_stays c t zero h = let here : t + 0 ≡ t = omega arith in ap (standing_at c) here
closed_stays c t (suc n) h =
    let before = closed_stays c t n h in
    let next : t + suc n ≡ suc (t + n) = omega arith in
    ap (standing_at c) next ∙ (closed_unmoved (suc (t + n)) (standing_at c (t + n)) (examined c (suc (t + n))) (ap is_open before ∙ h) ∙ before)

pub open_before : (c : Setting) (t u : ℕ) → u ≤ t → is_open (standing_at c t) ≡ true → is_open (standing_at c u) ≡ true
open_before c t u l h = ⊎_elim (λ e. e) (λ e. absurd (both_ways _ (still e) h)) (cases_Bool (is_open (standing_at c u)))
  where
    still : is_open (standing_at c u) ≡ false → is_open (standing_at c t) ≡ false
    still e =
        let later : t ≡ u + (t - u) = omega arith in
        ap (λ (v : ℕ). is_open (standing_at c v)) later ∙ (ap is_open (closed_stays c u (t - u) e) ∙ e)
