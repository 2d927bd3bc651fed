-- Tests of who is late, and what they tell.
use Rattle.std.specs.Prelude.{◌≡◌, ℕ, zero, suc, ◌<◌, ◌≤◌, Bool, true, not, ◌&&◌, length, ◌==◌, nat_lt}
use Rattle.std.proofs.Common.{⊎_elim, sym, subst, eq-or-lt_of_le, arith}
use Rattle.std.proofs.lemmas.Bool.{and_left, and_parts, cases_Bool, eqb-true, ltb-true, not-true}
use Rattle.plan.specs.Blocks.{every_below}
use Rattle.schedule.specs.Jobs.{live_job}
use Rattle.schedule.specs.Schedules.{FirstLate, OnTime, OnTimeTo, late, moment}
use Rattle.schedule.specs.States.{Setting, next_of}

every_at : (n k : ℕ) (p : ℕ → Bool) → every_below n p ≡ true → k < n → p k ≡ true
unfolding every_below
every_at zero k p h l = absurd (omega arith)
every_at (suc n) k p h l =
    ⊎_elim
    (λ same. subst (λ (z : ℕ). p z ≡ true) (sym same) (and_parts _ _ h).1)
    (λ less. every_at n k p (and_parts _ _ h).0 less)
    (eq-or-lt_of_le (let le : k ≤ n = omega arith in le))

-- no task is late at instant t
abbrev pub quiet : Setting → ℕ → Bool
quiet c t = every_below (length c.tasks) (λ i. not (late c t i))

pub on_time : (c : Setting) (t : ℕ) → quiet c t ≡ true → OnTime c t
on_time c t h i =
    ⊎_elim
    (λ known. not-true _ (every_at (length c.tasks) i (λ j. not (late c t j)) h (ltb-true i (length c.tasks) known)))
    (λ past. and_left (nat_lt i (length c.tasks)) _ past)
    (cases_Bool (nat_lt i (length c.tasks)))

-- nor at any instant before t
abbrev pub quiet_before : Setting → ℕ → Bool
quiet_before c t = every_below t (quiet c)

pub on_time_before : (c : Setting) (t u : ℕ) → quiet_before c t ≡ true → u < t → OnTime c u
on_time_before c t u h l = on_time c u (every_at t u (quiet c) h l)

pub on_time_to : (c : Setting) (t : ℕ) → quiet_before c (suc t) ≡ true → OnTimeTo c t
on_time_to c t h u l = on_time_before c (suc t) u h (omega arith)

-- job m of task i is late first, at instant t
abbrev pub first_late_test : Setting → ℕ → ℕ → ℕ → Bool
first_late_test c t i m = quiet_before c t && (late c t i && (m == live_job (next_of (moment c t) i) && every_below i (λ j. not (late c t j))))

pub first_late : (c : Setting) (t i m : ℕ) → first_late_test c t i m ≡ true → FirstLate c t i m
first_late c t i m h =
    let before = and_parts (quiet_before c t) _ h in
    let here = and_parts (late c t i) _ before.1 in
    let rest = and_parts (m == live_job (next_of (moment c t) i)) _ here.1 in
    record {
      is_late = here.0;
      job = eqb-true m _ rest.0;
      lowest = λ j l. not-true _ (every_at i j (λ k. not (late c t k)) rest.1 l);
      before = λ u l. on_time_before c t u before.0 l;
    }
