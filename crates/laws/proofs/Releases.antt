-- What the releases of an instant do to one task.
use Rattle.std.proofs.Common.{◌≡◌, ℕ, ◌<◌, cond, length, get_or, arith}
use Rattle.std.proofs.lemmas.List.{get_or-replicate}
use Rattle.plan.specs.Tasks.{zero_task}
use Rattle.schedule.proofs.Eaches.{each_at}
use Rattle.schedule.specs.Jobs.{counted, due, entered, vacant}
use Rattle.schedule.specs.Schedules.{moment, state_at}
use Rattle.schedule.specs.States.{Setting, next_of, slot_of, task_of}
use Rattle.schedule.specs.Ticks.{released}
use Rattle.laws.specs.Settings.{Admitted}
use Rattle.plan.proofs.TaskTimes.{Times, times_at}
use Rattle.laws.proofs.Sizes.{moment_sized}

module _ (c : Setting) (a : Admitted c) (i : ℕ) (known : i < length c.tasks) where
  pub timed_task : Times (task_of c i)
  timed_task = times_at c.tasks i zero_task a.keeping known

  pub next_counted : (t : ℕ) → next_of (released c t (moment c t)) i ≡ counted t (task_of c i) (next_of (moment c t) i)
  next_counted t =
      each_at 0 (length c.tasks) (λ j n. counted t (task_of c j) n) (moment c t).next i 0 known (omega (arith, a.few, (moment_sized c t).next))

  pub slot_entered : (t : ℕ) → slot_of (released c t (moment c t)).state i ≡ entered t (task_of c i) (next_of (moment c t) i) (slot_of (state_at c t) i)
  slot_entered t =
      each_at vacant (length c.tasks) (λ j s. entered t (task_of c j) (next_of (moment c t) j) s) (state_at c t).slots i vacant known (omega (arith, a.few, (moment_sized c t).slots))

  pub delay_entered : (t : ℕ) → get_or (released c t (moment c t)).delays i 0 ≡ cond (due t (task_of c i) (next_of (moment c t) i)) 0 (get_or (moment c t).delays i 0)
  delay_entered t =
      each_at 0 (length c.tasks) (λ j d. cond (due t (task_of c j) (next_of (moment c t) j)) 0 d) (moment c t).delays i 0 known (omega (arith, a.few, (moment_sized c t).delays))

  pub start_next : next_of (moment c 0) i ≡ 0
  unfolding moment
  start_next = get_or-replicate 16 i 0 0 (omega (arith, a.few))

  pub start_slot : slot_of (state_at c 0) i ≡ vacant
  unfolding moment
  start_slot = get_or-replicate 16 i vacant vacant (omega (arith, a.few))

  pub start_delay : get_or (moment c 0).delays i 0 ≡ 0
  unfolding moment
  start_delay = get_or-replicate 16 i 0 0 (omega (arith, a.few))
