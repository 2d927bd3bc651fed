-- What is known of the schedule in each standing.
use Rattle.std.proofs.Common.{◌≡◌, ℕ, zero, suc, ◌≤◌, ltb, length, sym, ap, ⊎_elim, eq-or-lt_of_le, subst, arith}
use Rattle.std.proofs.lemmas.Bool.{and_left, and_right}
use Rattle.laws.proofs.Releases.{start_slot}
use Rattle.laws.specs.Settings.{Admitted}
use Rattle.schedule.specs.Schedules.{FirstLate, OnTimeTo}
use Rattle.schedule.specs.States.{Setting}
use Rattle.schedule.specs.declared.slots.Slot.{Slot}
use Rattle.standing.specs.Decisions.{Repeated}
use Rattle.standing.specs.Standings.{examined, moved, standing_at}
use Rattle.standing.specs.declared.events.Event.{Event}
use Rattle.standing.specs.declared.events.Event.TheVariants.{Late, Repeats, Nothing}
use Rattle.standing.specs.declared.standings.Standing.{Standing}
use Rattle.standing.specs.declared.standings.Standing.TheVariants.{Open, Misses, Holds}
use Rattle.standing.proofs.Examining.{Quiet, Shows, examined_shows, not_before, on_time}

-- What is known when the instants up to t have been examined and the schedule stands so.
abbrev pub Known : Setting → ℕ → Standing → Type 0
Known c t Open = (u : ℕ) → u ≤ t → Quiet c u
Known c t (Misses u i m) = FirstLate c u i m × (u ≤ t)
Known c t (Holds u k p) = OnTimeTo c u × Repeated c u k p × (u ≤ t)

up_to : {P : ℕ → Type 0} (t : ℕ) → ((u : ℕ) → u ≤ t → P u) → P (suc t) → (u : ℕ) → u ≤ suc t → P u
up_to {P} t before now u l = ⊎_elim (λ e. subst P (sym e) now) (λ b. before u (omega arith)) (eq-or-lt_of_le l)

known_moved : (c : Setting) (t : ℕ) (s : Standing) (e : Event) → Known c t s → Shows c (suc t) e → Known c (suc t) (moved (suc t) s e)
known_moved c t Open (Late l) quiet h = (record { is_late = h.0; job = h.1; lowest = h.2; before = λ u b. (quiet u (omega arith)).0 }, omega arith)
known_moved c t Open (Repeats r) quiet h = (up_to t (λ u l. (quiet u l).0) h.0, h.1, omega arith)
known_moved c t Open Nothing quiet h = up_to t quiet h
known_moved c t (Misses u i m) e known h = (known.0, omega (arith, known.1))
known_moved c t (Holds u k p) e known h = (known.0, known.1, omega (arith, known.2))

-- at instant 0 no job is live, and no sample is compared
quiet_first : (c : Setting) → Admitted c → Quiet c 0
quiet_first c a = (
  on_time c 0 (λ i l. and_right (ltb i (length c.tasks)) _ (and_left _ _ (ap (λ (s : Slot). s.live) (start_slot c a i l)))),
  λ k p r. omega (arith, r.positive, not_before c a 0 k p r),
)

pub standing_known : (c : Setting) → Admitted c → (t : ℕ) → Known c t (standing_at c t)
unfolding standing_at
standing_known c a zero = λ u l. let start : 0 ≡ u = omega arith in subst (Quiet c) start (quiet_first c a)
standing_known c a (suc t) = known_moved c t (standing_at c t) (examined c (suc t)) (standing_known c a t) (examined_shows c a (suc t))
