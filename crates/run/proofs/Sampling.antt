-- A watch that has taken the samples before an instant tells what the comparison at that instant shows.
use Rattle.std.proofs.Common.{◌≡◌, ℕ, suc, ◌+◌, ◌*◌, ◌<◌, ◌≤◌, max, Bool, true, false, cond, ◌&&◌, eqb, leb, ltb, Some, None, refl, sym, ap, ◌∙◌, ⊎_elim, arith}
use Rattle.std.proofs.Math.Nat.{le-mul_of_pos_right, mul-le-mul_right}
use Rattle.std.proofs.lemmas.Bool.{and_from, and_parts, both_ways, cases_Bool, cases_lt, eq-eqb, eqb-true, le-leb, leb-true, lt-ltb}
use Rattle.cycle.proofs.Compared.{compared_more}
use Rattle.cycle.specs.Comparisons.{compared_with, next_compared}
use Rattle.dispatch.specs.Urgencies.{first_none, first_some}
use Rattle.laws.proofs.Plans.{hyperperiod_positive}
use Rattle.laws.specs.Settings.{Admitted}
use Rattle.run.specs.Watches.{Watching, shown_by, taken_by}
use Rattle.run.specs.declared.watch.Watch.{Watch}
use Rattle.schedule.specs.Schedules.{from, sample, state_at}
use Rattle.schedule.specs.StateLaws.{same_state}
use Rattle.schedule.specs.States.{Setting}
use Rattle.standing.specs.Standings.{compared, sample_at, taken}
use Rattle.standing.specs.declared.events.Event.TheVariants.{Nothing, Repeats}
use Rattle.standing.proofs.Comparing.{taken_once}

pub compared_first : (n : ℕ) → n ≡ 0 → compared_with n ≡ 0
unfolding compared_with
compared_first n e = ap compared_with e

compared_on : (n p : ℕ) → p ≡ compared_with n → next_compared n p ≡ compared_with (n + 1)
compared_on n p e = ap (next_compared n) e ∙ sym (compared_more n)

-- the sample that is kept next is this one, or the one that is kept
kept_on : {S : Type 0} (f : ℕ → S) (n p : ℕ) (s k : S) → s ≡ f n → (n ≡ 0 → p ≡ 0) → (1 ≤ n → k ≡ f p) → cond (eqb (next_compared n p) n) s k ≡ f (next_compared n p)
kept_on {S} f n p s k here none kept = go (eqb n (max 1 (2 * p))) refl
  where
    go : (b : Bool) → eqb n (max 1 (2 * p)) ≡ b → cond (eqb (cond b n p) n) s k ≡ f (cond b n p)
    go true e = ap (λ (v : Bool). cond v s k) (eq-eqb n n refl) ∙ here
    go false e = at (eqb p n) refl
      where
        at : (v : Bool) → eqb p n ≡ v → cond v s k ≡ f p
        at true same = here ∙ ap f (sym (eqb-true p n same))
        at false other = kept (⊎_elim (λ l. absurd (both_ways _ other (eq-eqb p n (let z : n ≡ 0 = omega (arith, l) in none z ∙ sym z)))) (λ l. l) (cases_lt n 1))

module _ (c : Setting) (a : Admitted c) (t : ℕ) where
  sample_none : ((k : ℕ) → 1 ≤ k → t ≡ from c + k * c.hyperperiod → ⊥) → sample_at c t ≡ None
  sample_none h = first_none (suc t) (taken c t) (λ k l. ⊎_elim (λ e. let p = and_parts (leb 1 k) _ e in absurd (h k (leb-true 1 k p.0) (eqb-true t _ p.1))) (λ e. e) (cases_Bool (taken c t k)))

  sample_some : (n : ℕ) → 1 ≤ n → t ≡ from c + n * c.hyperperiod → sample_at c t ≡ Some n
  sample_some n h e =
      let long : n ≤ n * c.hyperperiod = le-mul_of_pos_right n (hyperperiod_positive c a) in
      first_some (suc t) n (taken c t) (omega (arith, e, long)) (and_from _ _ (le-leb 1 n h) (eq-eqb t _ e)) (λ k l. ⊎_elim (λ y. absurd (earlier k l y)) (λ y. y) (cases_Bool (taken c t k)))
    where
      earlier : (k : ℕ) → k < n → taken c t k ≡ true → ⊥
      earlier k l y = omega (arith, l, taken_once (from c) c.hyperperiod k n (hyperperiod_positive c a) (sym (eqb-true t _ (and_parts (leb 1 k) _ y).1) ∙ e))

  -- between two samples
  module _ (w : Watch) (h : Watching c t w) (early : t < w.next) where
    pub none_taken : sample_at c t ≡ None
    none_taken = sample_none none
      where
        none : (k : ℕ) → 1 ≤ k → t ≡ from c + k * c.hyperperiod → ⊥
        none k l e = ⊎_elim before after (cases_lt k w.number)
          where
            after : w.number ≤ k → ⊥
            after m =
                let far : w.number * c.hyperperiod ≤ k * c.hyperperiod = mul-le-mul_right c.hyperperiod m in
                omega (arith, far, h.next, e, early)

            before : k < w.number → ⊥
            before m =
                let one : k + 1 ≤ w.number = omega (arith, m) in
                let far : (k + 1) * c.hyperperiod ≤ w.number * c.hyperperiod = mul-le-mul_right c.hyperperiod one in
                omega (arith, far, h.next, e, h.recent (omega (arith, m)))

  -- at a sample
  module _ (w : Watch) (h : Watching c t w) (due : t ≡ w.next) where
    taken_now : state_at c t ≡ sample c w.number
    taken_now = ap (state_at c) (due ∙ h.next)

    pub one_shown : compared c (sample_at c t) ≡ shown_by w (state_at c t)
    one_shown = ⊎_elim first later (cases_lt w.number 1)
      where
        first : w.number < 1 → compared c (sample_at c t) ≡ shown_by w (state_at c t)
        first l =
            let zeroth : w.number ≡ 0 = omega (arith, l) in
            let none = sample_none (λ k m e. let same = taken_once (from c) c.hyperperiod k w.number (hyperperiod_positive c a) (sym e ∙ (due ∙ h.next)) in omega (arith, same, l, m)) in
            ap (compared c) none ∙ sym (ap (λ (n : ℕ). cond (ltb 0 n && same_state (state_at c t) w.kept) (Repeats (record { sample = w.number; earlier = w.earlier })) Nothing) zeroth)

        later : 1 ≤ w.number → compared c (sample_at c t) ≡ shown_by w (state_at c t)
        later l =
            let kept = h.kept l ∙ ap (sample c) h.earlier in
            let positive = lt-ltb 0 w.number l in
            ap (compared c) (sample_some w.number l (due ∙ h.next))
            ∙ sym (λ i. cond (positive i && same_state (taken_now i) (kept i)) (Repeats (record { sample = w.number; earlier = h.earlier i })) Nothing)

    pub watching_on : Watching c (t + 1) (taken_by w (state_at c t))
    watching_on = record {
      period = h.period;
      next = omega (arith, h.next, h.period);
      ahead = omega (arith, due, h.period, hyperperiod_positive c a);
      recent = λ l. omega (arith, due, h.period);
      earlier = compared_on w.number w.earlier h.earlier;
      kept = λ l. kept_on (sample c) w.number w.earlier (state_at c t) w.kept taken_now (λ e. h.earlier ∙ compared_first w.number e) h.kept;
    }
