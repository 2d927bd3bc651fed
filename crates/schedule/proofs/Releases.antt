-- Jobs released one task after another.
use Rattle.std.proofs.Common.{◌≡◌, ℕ, ◌+◌, ◌<◌, false, cond, List, length, get_or, refl, sym, ap, ◌∙◌, arith}
use Rattle.schedule.proofs.Eaches.{each_ahead, each_more, each_still}
use Rattle.schedule.specs.Each.{each}
use Rattle.schedule.specs.Jobs.{counted, due, entered, vacant}
use Rattle.schedule.specs.States.{Moment, Setting, next_of, slot_of, task_of}
use Rattle.schedule.specs.Tables.{TaskReleased}
use Rattle.schedule.specs.Ticks.{released}

-- from x to y the jobs of the tasks below n were released, and nothing else happened
pub record ReleasedTo (c : Setting) (t n : ℕ) (x y : Moment) : Type 0 where
  pub slots : y.state.slots ≡ each vacant n (λ i s. entered t (task_of c i) (next_of x i) s) x.state.slots
  pub next : y.next ≡ each 0 n (λ i m. counted t (task_of c i) m) x.next
  pub delays : y.delays ≡ each 0 n (λ i d. cond (due t (task_of c i) (next_of x i)) 0 d) x.delays
  pub marks : y.state.marks ≡ x.state.marks
  pub running : y.state.running ≡ x.state.running

pub released_none : (c : Setting) (t : ℕ) (x : Moment) → ReleasedTo c t 0 x x
unfolding each
released_none c t x = record { slots = refl; next = refl; delays = refl; marks = refl; running = refl }

pub released_more : (c : Setting) (t n : ℕ) (x y z : Moment) → ReleasedTo c t n x y → TaskReleased c t n y z → ReleasedTo c t (n + 1) x z
released_more c t n x y z r o =
    let number : next_of y n ≡ next_of x n = ap (λ (l : List ℕ). get_or l n 0) r.next ∙ each_ahead 0 n _ x.next n 0 (omega arith) in
    let slot : slot_of y.state n ≡ slot_of x.state n = ap (λ l. get_or l n vacant) r.slots ∙ each_ahead vacant n _ x.state.slots n vacant (omega arith) in
    let delay : get_or y.delays n 0 ≡ get_or x.delays n 0 = ap (λ (l : List ℕ). get_or l n 0) r.delays ∙ each_ahead 0 n _ x.delays n 0 (omega arith) in
    let slots = each_more vacant n (λ i s. entered t (task_of c i) (next_of x i) s) x.state.slots in
    let nexts = each_more 0 n (λ i m. counted t (task_of c i) m) x.next in
    let delays = each_more 0 n (λ i d. cond (due t (task_of c i) (next_of x i)) 0 d) x.delays in
    record { slots = cc; next = cc; delays = cc; marks = cc; running = cc }

pub released_all : (c : Setting) (t : ℕ) (x y : Moment) → ReleasedTo c t (length c.tasks) x y → y ≡ released c t x
released_all c t x y r = λ i. record {
  state = record { slots = r.slots i; marks = r.marks i; running = r.running i };
  next = r.next i;
  delays = r.delays i;
}

-- where no job is due
pub released_nothing : (c : Setting) (t : ℕ) (x : Moment) → ((i : ℕ) → i < length c.tasks → due t (task_of c i) (next_of x i) ≡ false) → x ≡ released c t x
released_nothing c t x none =
    let slots = each_still vacant (length c.tasks) (λ i s. entered t (task_of c i) (next_of x i) s) x.state.slots (λ i l. rw (none i l) refl) in
    let next = each_still 0 (length c.tasks) (λ i n. counted t (task_of c i) n) x.next (λ i l. rw (none i l) refl) in
    let delays = each_still 0 (length c.tasks) (λ i d. cond (due t (task_of c i) (next_of x i)) 0 d) x.delays (λ i l. rw (none i l) refl) in
    λ k. record {
      state = record { slots = sym slots k; marks = x.state.marks; running = x.state.running };
      next = sym next k;
      delays = sym delays k;
    }
