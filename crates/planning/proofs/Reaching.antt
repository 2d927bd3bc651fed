-- Where a run that is followed comes to. Assumes nothing.
use Rattle.std.specs.Prelude.{◌≡◌, ℕ, zero, suc, ◌+◌, ◌-◌, ◌<◌, ◌≤◌, Bool, true, false, cond, length, Some, None, refl}
use Rattle.std.proofs.Common.{eqb, leb, sym, ap, ◌∙◌, subst, ⊎_elim, arith}
use Rattle.std.proofs.lemmas.Bool.{cases_Bool, cases_lt, eq-eqb}
use Rattle.std.proofs.lemmas.Bool.Decides.{nat_tests}
use Rattle.planning.specs.Following.{Followed}
use Rattle.planning.specs.Runs.{reached_in, report_instant}
use Rattle.run.proofs.Going.{undecided_before}
use Rattle.run.specs.Advances.{Asking, Went, stop_after, stop_of}
use Rattle.run.specs.Runs.{Shown, shown_at}
use Rattle.run.specs.Written.{job_in, switch_in, written}
use Rattle.run.specs.declared.advances.Advance.{Advance}
use Rattle.schedule.specs.States.{Setting}
use Rattle.standing.specs.Standings.{is_open, standing_at}

-- ---- an advance

-- where all ticks are done it does not go on
done_stops : (o j s : Bool) → stop_of o true j s ≡ None → ⊥
done_stops true j s e = cc
done_stops false j s e = cc

-- where logs have room and ticks are asked for, an open run goes on
pub goes_on : (c : Setting) (q : Asking) (t : ℕ) → is_open (standing_at c t) ≡ true → 0 < q.ticks → 0 < q.job_rows → 0 < q.switch_rows → stop_after c t q 0 ≡ None
unfolding written
goes_on c q t o n j s =
    let here : t + 0 ≡ t = omega arith in
    λ i. stop_of ((ap (λ (u : ℕ). is_open (standing_at c u)) here ∙ o) i) (not_zero q.ticks n i) (not_reached q.job_rows j i) (not_reached q.switch_rows s i)
  where
    not_zero : (k : ℕ) → 0 < k → eqb 0 k ≡ false
    not_zero k h = grind (arith, nat_tests)

    not_reached : (k : ℕ) → 0 < k → leb k 0 ≡ false
    not_reached k h = grind (arith, nat_tests)

-- ---- a run that is followed, one advance further

module _ {c : Setting} {q : Asking} {x y : Shown} {a : Advance} (w : Went c q x y a) where
  pub no_more : a.ticks ≤ q.ticks
  no_more = ⊎_elim (λ l. absurd (over l)) (λ l. l) (cases_lt q.ticks a.ticks)
    where
      over : q.ticks < a.ticks → ⊥
      over l =
          let o = is_open (standing_at c (x.clock + q.ticks)) in
          let j = leb q.job_rows (length (written (job_in c) x.clock q.ticks)) in
          let s = leb q.switch_rows (length (written (switch_in c) x.clock q.ticks)) in
          done_stops o j s (ap (λ (d : Bool). stop_of o d j s) (sym (eq-eqb q.ticks q.ticks refl)) ∙ w.going q.ticks l)

  pub was_undecided : (u : ℕ) → u < a.ticks → is_open (standing_at c (x.clock + u)) ≡ true
  was_undecided u l = undecided_before c q x.clock u (w.going u l)

  pub led_clock : y.clock ≡ x.clock + a.ticks
  led_clock = ap (λ (z : Shown). z.clock) w.led

  pub moved_on : stop_after c x.clock q 0 ≡ None → x.clock < y.clock
  moved_on none = ⊎_elim (λ l. absurd (still l)) (λ l. omega (arith, led_clock, l)) (cases_lt a.ticks 1)
    where
      still : a.ticks < 1 → ⊥
      still l =
          let zeroth : a.ticks ≡ 0 = omega (arith, l) in
          let stopped = subst (λ (n : ℕ). stop_after c x.clock q n ≡ Some a.stop) zeroth w.stopped in
          cc (none, stopped)

  pub undecided_on : ((u : ℕ) → u < x.clock → is_open (standing_at c u) ≡ true) → (u : ℕ) → u < y.clock → is_open (standing_at c u) ≡ true
  undecided_on before u l = ⊎_elim (before u) later (cases_lt u x.clock)
    where
      later : x.clock ≤ u → is_open (standing_at c u) ≡ true
      later m =
          let split : u ≡ x.clock + (u - x.clock) = omega (arith, m) in
          ap (λ (v : ℕ). is_open (standing_at c v)) split ∙ was_undecided (u - x.clock) (omega (arith, m, l, led_clock))

-- ---- the instant of the report

reached_open : (c : Setting) (n t : ℕ) → ((u : ℕ) → u < t → is_open (standing_at c u) ≡ true) → n ≤ t → reached_in c n ≡ n
unfolding reached_in
reached_open c zero t h l = refl
reached_open c (suc n) t h l =
    let here = reached_open c n t h (omega (arith, l)) in
    (λ i. cond (is_open (standing_at c (here i))) (suc (here i)) (here i)) ∙ ap (λ (b : Bool). cond b (suc n) n) (h n (omega (arith, l)))

reached_decided : (c : Setting) (t k : ℕ) → reached_in c t ≡ t → is_open (standing_at c t) ≡ false → reached_in c (k + t) ≡ t
unfolding reached_in
reached_decided c t zero here e = let now : 0 + t ≡ t = omega arith in ap (reached_in c) now ∙ here
reached_decided c t (suc k) here e =
    let before = reached_decided c t k here e in
    let next : suc k + t ≡ suc (k + t) = omega arith in
    ap (reached_in c) next
    ∙ ((λ i. cond (is_open (standing_at c (before i))) (suc (before i)) (before i)) ∙ ap (λ (b : Bool). cond b (suc t) t) e)

reaches : (c : Setting) (n t : ℕ) → ((u : ℕ) → u < t → is_open (standing_at c u) ≡ true) → t ≤ n → (is_open (standing_at c t) ≡ true → t ≡ n) → reached_in c n ≡ t
reaches c n t h l last = ⊎_elim still decided (cases_Bool (is_open (standing_at c t)))
  where
    here : reached_in c t ≡ t
    here = reached_open c t t h (omega arith)

    still : is_open (standing_at c t) ≡ true → reached_in c n ≡ t
    still e = ap (reached_in c) (sym (last e)) ∙ here

    decided : is_open (standing_at c t) ≡ false → reached_in c n ≡ t
    decided e = let far : n ≡ n - t + t = omega (arith, l) in ap (reached_in c) far ∙ reached_decided c t (n - t) here e

-- so what a run shows that stopped being followed is what is reported
pub reported : {c : Setting} {x : Shown} → Followed c x → x ≡ shown_at c x.clock → (is_open (standing_at c x.clock) ≡ true → x.clock ≡ 20000000) → x ≡ shown_at c (report_instant c)
reported {c} {x} h here last = here ∙ ap (shown_at c) (sym (reaches c 20000000 x.clock h.undecided h.near last))
