-- What one tick does to one task: it rests, or it has the core.
use Rattle.std.proofs.Common.{◌≡◌, ℕ, suc, ◌+◌, ◌<◌, Bool, true, false, cond, ◌&&◌, eqb, ltb, ◌⊎◌, length, get_or, Some, None, Option, sym, refl, ap, ◌∙◌, inl, inr, ⊎_elim, arith}
use Rattle.std.proofs.lemmas.List.FromFn.{get_or-map-range_with_len, length-map-range_with_len}
use Rattle.std.proofs.lemmas.Bool.{and_left, and_parts, cases_Bool, cond-false, eq-eqb, eqb-true, false≢true, ltb-true}
use Rattle.std.proofs.lemmas.Bool.Decides.{nat_tests}
use Rattle.dispatch.specs.Rules.{NamesLive, absent}
use Rattle.schedule.specs.Jobs.{live_job, shown, vacant}
use Rattle.schedule.specs.Rows.{finishes, switch_row, switch_row_of}
use Rattle.schedule.specs.Schedules.{moment, state_at}
use Rattle.schedule.specs.States.{Moment, Setting, next_of, slot_of, task_of}
use Rattle.schedule.specs.Ticks.{answered, candidates, delay_to, is_running, released, runs, tick}
use Rattle.laws.specs.Service.{delay_for, delay_in, job_in, on_core, serves}
use Rattle.laws.specs.Settings.{Admitted}
use Rattle.laws.proofs.Serving.{charged_other, charged_own, served_other, served_own, worked_slot}
use Rattle.laws.proofs.Sizes.{entry_sized}

runs_it : (o : Option ℕ) (i : ℕ) → runs o i ≡ true → o ≡ Some i
runs_it None i h = absurd (false≢true h)
runs_it (Some j) i h = ap Some (eqb-true j i h)

-- What the test says.
pub serves_tells : (c : Setting) (t i m : ℕ) → serves c t i m ≡ true → (on_core c t ≡ Some i) × (job_in c t i ≡ m)
unfolding serves
serves_tells c t i m h =
    let parts = and_parts (runs (on_core c t) i) (eqb (job_in c t i) m) h in
    (runs_it (on_core c t) i parts.0, eqb-true (job_in c t i) m parts.1)

-- The moment after the releases of tick t.
abbrev pub entry : Setting → ℕ → Moment
entry c t = released c t (moment c t)

-- A rule that names live tasks only gives the core to a task of the plan, whose job is live.
pub named_live : (c : Setting) → NamesLive c.rule → (t j : ℕ) → on_core c t ≡ Some j
    → (j < length c.tasks) × ((slot_of (entry c t).state j).live ≡ true)
named_live c live t j e = (known, lives)
  where
    parts : (ltb j (length (candidates c t (entry c t))) ≡ true) × ((get_or (candidates c t (entry c t)) j absent).live ≡ true)
    parts = and_parts _ _ (live (candidates c t (entry c t)) (entry c t).state.running j e)

    known : j < length c.tasks
    known =
        omega (
          arith,
          ltb-true j (length (candidates c t (entry c t))) parts.0,
          length-map-range_with_len (λ i. shown t (task_of c i) (next_of (entry c t) i) (slot_of (entry c t).state i)) 0 (length c.tasks),
        )

    lives : (slot_of (entry c t).state j).live ≡ true
    lives =
        let at : 0 + j ≡ j = omega arith in
        sym (ap (λ r. r.live) (get_or-map-range_with_len (λ i. shown t (task_of c i) (next_of (entry c t) i) (slot_of (entry c t).state i)) 0 (length c.tasks) j j absent known at))
        ∙ parts.1

-- Another task has the core, or none.
pub record Rests (c : Setting) (t i : ℕ) : Type 0 where
  pub slot : slot_of (state_at c (suc t)) i ≡ slot_of (entry c t).state i
  pub delay : get_or (moment c (suc t)).delays i 0 ≡ get_or (entry c t).delays i 0
  pub unserved : (m : ℕ) → serves c t i m ≡ false
  pub undelayed : (m : ℕ) → delay_in c t i m ≡ 0

delay_other : (c : Setting) (t : ℕ) (x : Moment) (o : Option ℕ) (i m : ℕ) → runs o i ≡ false → delay_for (switch_row_of c t x o) i m ≡ 0
delay_other c t x None i m h = refl
delay_other c t x (Some j) i m h = go (is_running x.state j)
  where
    go : (b : Bool)
        → delay_for (cond b None (Some (record { instant = t; task = j; job = live_job (next_of x j); delay = delay_to c j x.state }))) i m ≡ 0
    go true = refl
    go false = cond-false _ _ _ (and_left (eqb j i) (eqb (live_job (next_of x j)) m) h)

rests : (c : Setting) (t i : ℕ) → runs (on_core c t) i ≡ false → Rests c t i
unfolding moment tick serves delay_in switch_row
rests c t i h =
    record {
      slot = served_other c (on_core c t) i (entry c t).state h;
      delay = charged_other c (on_core c t) i (entry c t) h;
      unserved = λ m. and_left (runs (on_core c t) i) (eqb (job_in c t i) m) h;
      undelayed = λ m. delay_other c t (entry c t) (on_core c t) i m h;
    }

-- The task has the core.
pub record Works (c : Setting) (t i : ℕ) : Type 0 where
  pub slot : slot_of (state_at c (suc t)) i ≡ cond (finishes c i (entry c t).state) vacant (worked_slot c i (entry c t).state)
  pub delay : get_or (moment c (suc t)).delays i 0 ≡ get_or (entry c t).delays i 0 + delay_to c i (entry c t).state
  pub served : (m : ℕ) → serves c t i m ≡ eqb (job_in c t i) m
  pub delayed : (m : ℕ) → delay_in c t i m ≡ cond (eqb (job_in c t i) m) (delay_to c i (entry c t).state) 0

delay_own : (c : Setting) (t : ℕ) (x : Moment) (i m : ℕ)
    → delay_for (switch_row_of c t x (Some i)) i m ≡ cond (eqb (live_job (next_of x i)) m) (delay_to c i x.state) 0
delay_own c t x i m = go (is_running x.state i) (cond (slot_of x.state i).begun (answered c i x.state) 0)
  where
    go : (b : Bool) (y : ℕ)
        → delay_for (cond b None (Some (record { instant = t; task = i; job = live_job (next_of x i); delay = cond b 0 y }))) i m
        ≡ cond (eqb (live_job (next_of x i)) m) (cond b 0 y) 0
    go true y = grind (arith, nat_tests)
    go false y = rw (eq-eqb i i refl)

and_goes_on : (x y : Bool) → x ≡ true → (x && y) ≡ y
and_goes_on x y h = rw h

pub works : (c : Setting) → Admitted c → (t i : ℕ) → i < length c.tasks → on_core c t ≡ Some i → Works c t i
unfolding moment tick serves delay_in switch_row
works c a t i known e =
    let sized = entry_sized c t in
    record {
      slot = rw e (served_own c i (entry c t).state (omega (arith, a.few, sized.slots)));
      delay = rw e (charged_own c i (entry c t) (omega (arith, a.few, sized.delays)));
      served = λ m. and_goes_on (runs (on_core c t) i) (eqb (job_in c t i) m) (ap (λ o. runs o i) e ∙ eq-eqb i i refl);
      delayed = λ m. rw e (delay_own c t (entry c t) i m);
    }

-- There is no third way.
pub turn : (c : Setting) (t i : ℕ) → Rests c t i ⊎ (on_core c t ≡ Some i)
turn c t i =
    ⊎_elim
    (λ has. inr (runs_it (on_core c t) i has))
    (λ none. inl (rests c t i none))
    (cases_Bool (runs (on_core c t) i))
