-- In which ticks the jobs of a task are released.
use Rattle.std.proofs.Common.{◌≡◌, ℕ, ◌+◌, ◌<◌, true, false, eqb, ltb, length, Decides, arith}
use Rattle.std.proofs.lemmas.Bool.{and_from, and_parts, eq-eqb, eqb-true, lt-ltb, ltb-true}
use Rattle.dispatch.specs.Rules.{NamesLive}
use Rattle.schedule.specs.Jobs.{due, release}
use Rattle.schedule.specs.Schedules.{OnTimeTo, moment, state_at}
use Rattle.schedule.specs.States.{Setting, next_of, slot_of, task_of}
use Rattle.laws.specs.Service.{releases_in}
use Rattle.laws.specs.Settings.{Admitted}
use Rattle.laws.proofs.Deadlines.{slot_vacated}
use Rattle.laws.proofs.Counts.{moment_next, next_released}
use Rattle.laws.proofs.Releases.{timed_task}

-- What the test says.
record Released (c : Setting) (t i m : ℕ) : Type 0 where
  known : i < length c.tasks
  is_due : due t (task_of c i) (next_of (moment c t) i) ≡ true
  is_next : next_of (moment c t) i ≡ m

released_tells : (c : Setting) (t i m : ℕ) → releases_in c t i m ≡ true → Released c t i m
unfolding releases_in
released_tells c t i m h =
    let outer = and_parts (ltb i (length c.tasks)) _ h in
    let inner = and_parts (due t (task_of c i) (next_of (moment c t) i)) (eqb (next_of (moment c t) i) m) outer.1 in
    record { known = ltb-true i (length c.tasks) outer.0; is_due = inner.0; is_next = eqb-true (next_of (moment c t) i) m inner.1 }

released_then : (c : Setting) (t i m : ℕ) → releases_in c t i m ≡ true → t ≡ release (task_of c i) m
released_then c t i m h =
    let r = released_tells c t i m h in
    rw r.is_next at (eqb-true t (release (task_of c i) (next_of (moment c t) i)) r.is_due)

then_released : (c : Setting) → Admitted c → (t i m : ℕ) → i < length c.tasks → t ≡ release (task_of c i) m → releases_in c t i m ≡ true
unfolding releases_in
then_released c a t i m known e =
    let timed = timed_task c a i known in
    let is-next = next_released (task_of c i) t (next_of (moment c t) i) m (omega (arith, timed.works, timed.able, timed.constrained)) (moment_next c t i a known) e in
    and_from (ltb i (length c.tasks)) _ (lt-ltb i (length c.tasks) known)
    (and_from (due t (task_of c i) (next_of (moment c t) i)) (eqb (next_of (moment c t) i) m)
    (eq-eqb t (release (task_of c i) (next_of (moment c t) i)) (rw is-next e))
    (eq-eqb (next_of (moment c t) i) m is-next))

pub releases_once : (c : Setting) → Admitted c → (t i m : ℕ) → i < length c.tasks → Decides (releases_in c t i m) (t ≡ release (task_of c i) m)
releases_once c a t i m known = (released_then c t i m, then_released c a t i m known)

pub releases_apart : (c : Setting) (t u i m : ℕ) → releases_in c t i m ≡ true → releases_in c u i (m + 1) ≡ true → u ≡ t + (task_of c i).period
releases_apart c t u i m p q = omega (arith, released_then c t i m p, released_then c u i (m + 1) q)

pub release_vacated : (c : Setting) → Admitted c → NamesLive c.rule → (t i m : ℕ) → OnTimeTo c t → releases_in c t i m ≡ true → (slot_of (state_at c t) i).live ≡ false
release_vacated c a live t i m on h =
    let r = released_tells c t i m h in
    slot_vacated c a live i r.known t on r.is_due
