-- What an admitted plan says of each of its tasks.
use Rattle.std.proofs.Common.{◌≡◌, ℕ, zero, suc, ◌*◌, ◌/◌, ◌%◌, ◌<◌, ◌≤◌, true, eqb, List, [], ◌∷◌, length, get_or, sym, arith}
use Prim.Native.Nat.{◌∣◌}
use native.Mathlib.Nat.{div-mul_cancel, dvd_of_mod-eq-zero}
use Rattle.std.proofs.lemmas.List.{length-take}
use Rattle.std.proofs.lemmas.Bool.{and_parts, eqb-true}
use Rattle.delay.specs.Profiles.{Profile}
use Rattle.dispatch.specs.Rules.{Rule}
use Rattle.plan.proofs.TaskTimes.{Times, times_at}
use Rattle.plan.specs.Periods.{common}
use Rattle.plan.specs.Tasks.{greatest, offsets, periods, zero_task}
use Rattle.plan.specs.declared.admitted.Plan.{Plan}
use Rattle.plan.specs.declared.tasks.Task.{Task}
use Rattle.schedule.specs.Schedules.{from}
use Rattle.schedule.specs.States.{Setting, setting_of, task_of}
use Rattle.laws.specs.Settings.{Admitted}

-- a plan's own invariants are what the laws ask for
pub admitted_plan : (p : Plan) (rule : Rule) (profile : Profile) → Admitted (setting_of p rule profile)
admitted_plan p rule profile = record {
  few = simp length-take (omega (arith, p.head.few));
  keeping = p.keeping;
  repeating = p.repeating;
}

pub offset_reached : (ks : List Task) (i : ℕ) → i < length ks → (get_or ks i zero_task).offset ≤ greatest (offsets ks)
offset_reached [] i l = absurd (omega arith)
offset_reached (k ∷ ks) zero l = omega arith
offset_reached (k ∷ ks) (suc i) l = omega (arith, offset_reached ks i (let h : i < length ks = omega arith in h))

pub period_divides : (h : ℕ) (ks : List Task) (i : ℕ) → common h (periods ks) ≡ true → i < length ks → (get_or ks i zero_task).period ∣ h
period_divides h [] i e l = absurd (omega arith)
period_divides h (k ∷ ks) zero e l = dvd_of_mod-eq-zero k.period (eqb-true (h % k.period) 0 (and_parts (eqb (h % k.period) 0) (common h (periods ks)) e).0)
period_divides h (k ∷ ks) (suc i) e l = period_divides h ks i (and_parts (eqb (h % k.period) 0) (common h (periods ks)) e).1 (omega arith)

-- Of task i: its times are in order, its first release comes by `from`, and its period divides the hyperperiod.
pub record Planned (c : Setting) (i : ℕ) : Type 0 where
  pub order : Times (task_of c i)
  pub reached : (task_of c i).offset ≤ from c
  pub turns : ℕ
  pub whole : c.hyperperiod ≡ turns * (task_of c i).period

pub planned : (c : Setting) → Admitted c → (i : ℕ) → i < length c.tasks → Planned c i
planned c a i l = record {
  order = times_at c.tasks i zero_task a.keeping l;
  reached = offset_reached c.tasks i l;
  turns = c.hyperperiod / (task_of c i).period;
  whole = sym (div-mul_cancel (task_of c i).period (period_divides c.hyperperiod c.tasks i a.repeating.1 l));
}

pub hyperperiod_positive : (c : Setting) → Admitted c → 0 < c.hyperperiod
hyperperiod_positive c a = a.repeating.0
