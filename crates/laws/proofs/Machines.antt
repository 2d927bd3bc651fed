-- The schedule as a machine whose ticks repeat.
use Rattle.std.proofs.Common.{◌≡◌, ℕ, zero, suc, ◌+◌, ◌*◌, Some, None, Option, sym, refl, ap, ◌∙◌}
use Rattle.cycle.specs.Machines as cycle
use Rattle.schedule.specs.Schedules.{from, moment, sample, state_at}
use Rattle.schedule.specs.States.{Moment, Setting, State, start_state}
use Rattle.schedule.specs.Ticks.{chosen, released, served, tick}
use Rattle.laws.specs.Repetition.{doing, doing_of, next_at, placed}
use Rattle.laws.specs.Settings.{Admitted}
use Rattle.laws.proofs.Counts.{next_by_instant}
use Rattle.laws.proofs.Plans.{hyperperiod_positive}
use Rattle.laws.proofs.Shifts.{doing_same}

after_served : (c : Setting) (s : State) (o : Option ℕ) → (doing_of c s o).after ≡ served c o s
after_served c s None = refl
after_served c s (Some j) = refl

-- a tick sees the state and the next jobs of its moment, and the delays have no part in it
tick_state : (c : Setting) (t : ℕ) (x : Moment) → x.next ≡ next_at c t → (tick c t x).state ≡ (doing c t x.state).after
unfolding tick doing
tick_state c t x e =
    ap (λ ns. let r = released c t (record { state = x.state; next = ns; delays = x.delays }) in served c (chosen c t r) r.state) e
    ∙ sym (after_served c (released c t (placed c t x.state)).state (chosen c t (released c t (placed c t x.state))))

pub state_onward : (c : Setting) (t : ℕ) → state_at c (suc t) ≡ (doing c t (state_at c t)).after
unfolding moment
state_onward c t = tick_state c t (moment c t) (next_by_instant c t)

abbrev pub machine : (c : Setting) → Admitted c → cycle.Machine State
machine c a = record {
  step = λ t s. (doing c t s).after;
  start = start_state;
  from = from c;
  period = c.hyperperiod;
  positive = hyperperiod_positive c a;
  repeats = λ t s o. ap (λ d. d.after) (doing_same c a t s o);
}

-- it runs through the states of the schedule
pub machine_state : (c : Setting) (a : Admitted c) (t : ℕ) → cycle.state (machine c a) t ≡ state_at c t
unfolding moment
machine_state c a zero = refl
machine_state c a (suc t) = ap (λ s. (doing c t s).after) (machine_state c a t) ∙ sym (state_onward c t)

pub machine_sample : (c : Setting) (a : Admitted c) (k : ℕ) → cycle.sample (machine c a) k ≡ sample c k
machine_sample c a k = machine_state c a (from c + k * c.hyperperiod)

-- samples that are equal in the schedule are equal in the machine
pub machine_samples : (c : Setting) (a : Admitted c) (i j : ℕ) → sample c i ≡ sample c j → cycle.sample (machine c a) i ≡ cycle.sample (machine c a) j
machine_samples c a i j e = machine_sample c a i ∙ (e ∙ sym (machine_sample c a j))
