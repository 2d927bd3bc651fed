-- The account of one task: what each of its jobs has had of the core, against what its slot says is left.
use Rattle.std.proofs.Common.{◌≡◌, ℕ, ◌+◌, ◌-◌, ◌≤◌, Bool, true, false, cond, eqb, ltb, refl, ◌∙◌, arith}
use Rattle.std.proofs.lemmas.Bool.{eqb-false, ne_eqb, eq-eqb, false≢true}
use Rattle.std.proofs.lemmas.Bool.Decides.{nat_tests}
use Rattle.plan.specs.declared.tasks.Task.{Task}
use Rattle.schedule.specs.Jobs.{fresh, vacant}
use Rattle.schedule.specs.declared.slots.Slot.{Slot}
use Rattle.laws.proofs.Serving.{Worked}

-- Of a task with so much work: the ticks and the delays that each job has had, the next job, the slot and the delay of its job.
pub record Account (work : ℕ) (ticks delays : ℕ → ℕ) (n : ℕ) (s : Slot) (d : ℕ) : Type 0 where
  -- a job that is yet to be released has had nothing
  pub ahead : (m : ℕ) → n ≤ m → (ticks m ≡ 0) × (delays m ≡ 0)
  pub known : s.live ≡ true → 1 ≤ n
  pub some : s.live ≡ true → 1 ≤ s.left
  -- what the live job has had, and what it is to have
  pub whole : s.live ≡ true → ticks (n - 1) + s.left + s.owed ≡ work + d
  pub told : s.live ≡ true → delays (n - 1) ≡ d

-- The first account: nothing has been had.
pub account_start : (work : ℕ) (ticks delays : ℕ → ℕ) → ((m : ℕ) → ticks m ≡ 0) → ((m : ℕ) → delays m ≡ 0) → Account work ticks delays 0 vacant 0
account_start work ticks delays p q =
    record {
      ahead = λ m l. (p m, q m);
      known = λ h. absurd (false≢true h);
      some = λ h. absurd (false≢true h);
      whole = λ h. absurd (false≢true h);
      told = λ h. absurd (false≢true h);
    }

-- A release opens the account of the next job.
pub account_release : (k : Task) (ticks delays : ℕ → ℕ) (n : ℕ) (s : Slot) (d : ℕ) (b : Bool) → 1 ≤ k.work
    → Account k.work ticks delays n s d → Account k.work ticks delays (cond b (n + 1) n) (cond b (fresh k) s) (cond b 0 d)
account_release k ticks delays n s d false w a = a
account_release k ticks delays n s d true w a =
    let last : n + 1 - 1 ≡ n = omega arith in
    let none = a.ahead n (omega arith) in
    record {
      ahead = λ m l. a.ahead m (omega arith);
      known = λ _. omega arith;
      some = λ _. w;
      whole = λ _. rw last (omega (arith, none.0));
      told = λ _. rw last none.1;
    }

-- A tick that another task has changes nothing.
pub account_same : (work : ℕ) (ticks delays more later : ℕ → ℕ) (n : ℕ) (s : Slot) (d : ℕ)
    → ((m : ℕ) → more m ≡ ticks m) → ((m : ℕ) → later m ≡ delays m)
    → Account work ticks delays n s d → Account work more later n s d
account_same work ticks delays more later n s d p q a =
    record {
      ahead = λ m l. (p m ∙ (a.ahead m l).0, q m ∙ (a.ahead m l).1);
      known = a.known;
      some = a.some;
      whole = λ h. rw (p (n - 1)) (a.whole h);
      told = λ h. q (n - 1) ∙ a.told h;
    }

-- What a job has had after one more tick, whether or not it was the last.
record Paid (work : ℕ) (ticks delays : ℕ → ℕ) (m : ℕ) (w : Slot) (d : ℕ) : Type 0 where
  whole : ticks m + w.left + w.owed ≡ work + d
  told : delays m ≡ d
  -- nothing is owed when no work is left, since a reload tick is paid before a tick of work
  last : w.left ≡ 0 → w.owed ≡ 0

-- A tick goes from what is owed or from what is left, and a delay adds as much to both sides.
one_tick : (a b l o x e f : ℕ) → 1 ≤ l → e ≡ cond (ltb 0 (o + x)) l (l - 1) → f ≡ o + x - 1 → a + l + o ≡ b → a + 1 + e + f ≡ b + x
one_tick a b l o x e f h p q r = grind (arith, nat_tests)

-- A job owes nothing in its last tick.
last_tick : (l o x e f : ℕ) → 1 ≤ l → e ≡ cond (ltb 0 (o + x)) l (l - 1) → f ≡ o + x - 1 → e ≡ 0 → f ≡ 0
last_tick l o x e f h p q r = grind (arith, nat_tests)

module _ (work : ℕ) (ticks delays more later : ℕ → ℕ) (n : ℕ) (s : Slot) (d x : ℕ) (w : Slot)
    (lives : s.live ≡ true) (worked : Worked s x w)
    (counts : (m : ℕ) → more m ≡ ticks m + cond (eqb (n - 1) m) 1 0)
    (adds : (m : ℕ) → later m ≡ delays m + cond (eqb (n - 1) m) x 0)
    (a : Account work ticks delays n s d) where
  account_paid : Paid work more later (n - 1) w (d + x)
  account_paid =
      let more-is : more (n - 1) ≡ ticks (n - 1) + 1 = counts (n - 1) ∙ rw (eq-eqb (n - 1) (n - 1) refl) in
      let later-is : later (n - 1) ≡ delays (n - 1) + x = adds (n - 1) ∙ rw (eq-eqb (n - 1) (n - 1) refl) in
      let tick = one_tick (ticks (n - 1)) (work + d) s.left s.owed x w.left w.owed (a.some lives) worked.left worked.owed (a.whole lives) in
      record {
        whole = omega arith;
        told = omega (arith, a.told lives);
        last = last_tick s.left s.owed x w.left w.owed (a.some lives) worked.left worked.owed;
      }

  -- the tick is none of a job that is yet to be released
  others : (m : ℕ) → n ≤ m → (more m ≡ 0) × (later m ≡ 0)
  others m l =
      let other : eqb (n - 1) m ≡ false = ne_eqb (n - 1) m (omega (arith, a.known lives)) in
      (counts m ∙ rw other (omega (arith, (a.ahead m l).0)), adds m ∙ rw other (omega (arith, (a.ahead m l).1)))

  -- a job that goes on has an account that goes on, and one that finishes leaves no live job behind.
  pub account_work : Account work more later n (cond (eqb w.left 0) vacant w) (d + x)
  account_work = go (eqb w.left 0) refl
    where
      go : (b : Bool) → eqb w.left 0 ≡ b → Account work more later n (cond b vacant w) (d + x)
      go true e =
          record {
            ahead = others;
            known = λ h. absurd (false≢true h);
            some = λ h. absurd (false≢true h);
            whole = λ h. absurd (false≢true h);
            told = λ h. absurd (false≢true h);
          }
      go false e =
          let p = account_paid in
          record {
            ahead = others;
            known = λ _. a.known lives;
            some = λ _. omega (arith, eqb-false w.left 0 e);
            whole = λ _. p.whole;
            told = λ _. p.told;
          }

  -- a job that finishes has had its work and its delays.
  pub account_closed : w.left ≡ 0 → (more (n - 1) ≡ work + (d + x)) × (later (n - 1) ≡ d + x)
  account_closed e = let p = account_paid in (omega (arith, p.whole, p.last e), p.told)
