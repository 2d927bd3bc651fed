-- The account of each task is right at every instant.
use Rattle.std.proofs.Common.{◌≡◌, ℕ, zero, suc, ◌+◌, ◌<◌, true, cond, eqb, length, get_or, Some, refl, ◌∙◌, ⊎_elim, add-zero, arith}
use Rattle.std.proofs.lemmas.Bool.{eqb-true}
use Rattle.delay.specs.Lines.{count_below}
use Rattle.dispatch.specs.Rules.{NamesLive}
use Rattle.schedule.specs.Jobs.{due, vacant}
use Rattle.schedule.specs.Rows.{finishes}
use Rattle.schedule.specs.Schedules.{moment, state_at}
use Rattle.schedule.specs.States.{Moment, Setting, next_of, slot_of, task_of}
use Rattle.schedule.specs.Ticks.{delay_to, tick}
use Rattle.schedule.specs.declared.slots.Slot.{Slot}
use Rattle.laws.specs.Service.{delay_in, job_in, on_core, serves, sum_below}
use Rattle.laws.specs.Settings.{Admitted}
use Rattle.laws.proofs.Accounts.{Account, account_closed, account_release, account_same, account_start, account_work}
use Rattle.laws.proofs.Releases.{delay_entered, next_counted, slot_entered, start_delay, start_next, start_slot, timed_task}
use Rattle.laws.proofs.Serving.{worked_own, worked_slot}
use Rattle.laws.proofs.Sizes.{entry_sized}
use Rattle.laws.proofs.Turns.{Rests, Works, entry, named_live, turn, works}

-- How many ticks below t serve job m of task i.
abbrev pub ticks_had : Setting → ℕ → ℕ → ℕ → ℕ
ticks_had c i t m = count_below t (λ u. serves c u i m)

-- How much delay is answered to it below t.
abbrev pub delay_had : Setting → ℕ → ℕ → ℕ → ℕ
delay_had c i t m = sum_below t (λ u. delay_in c u i m)

-- An account in which ticks and delays are counted below t.
abbrev Ledger : Setting → ℕ → ℕ → ℕ → Slot → ℕ → Type 0
Ledger c i t n s d = Account (task_of c i).work (ticks_had c i t) (delay_had c i t) n s d

-- The account that a moment tells.
abbrev pub LedgerOf : Setting → ℕ → ℕ → Moment → Type 0
LedgerOf c i t x = Ledger c i t (next_of x i) (slot_of x.state i) (get_or x.delays i 0)

ledger_moved : (c : Setting) (i t : ℕ) (n m : ℕ) (s r : Slot) (d e : ℕ) → m ≡ n → r ≡ s → e ≡ d → Ledger c i t n s d → Ledger c i t m r e
ledger_moved c i t n m s r d e p q z b = rw (p, q, z) b

module _ (c : Setting) (a : Admitted c) (live : NamesLive c.rule) (i : ℕ) (known : i < length c.tasks) where
  -- nothing is counted below 0
  ledger_start : LedgerOf c i 0 (moment c 0)
  unfolding count_below sum_below
  ledger_start =
      ledger_moved c i 0 0 _ vacant _ 0 _ (start_next c a i known) (start_slot c a i known) (start_delay c a i known)
      (account_start (task_of c i).work _ _ (λ m. refl) (λ m. refl))

  ledger_entered : (t : ℕ) → LedgerOf c i t (moment c t) → LedgerOf c i t (entry c t)
  ledger_entered t b =
      ledger_moved c i t _ _ _ _ _ _ (next_counted c a i known t) (slot_entered c a i known t) (delay_entered c a i known t)
      (account_release (task_of c i) _ _ (next_of (moment c t) i) (slot_of (state_at c t) i) (get_or (moment c t).delays i 0) (due t (task_of c i) (next_of (moment c t) i)) (timed_task c a i known).works b)

  -- serving changes no number
  next_on : (t : ℕ) → next_of (moment c (suc t)) i ≡ next_of (entry c t) i
  unfolding moment tick
  next_on t = refl

  ticks_more : (t m : ℕ) → ticks_had c i (suc t) m ≡ ticks_had c i t m + cond (serves c t i m) 1 0
  unfolding count_below
  ticks_more t m = refl

  delay_more : (t m : ℕ) → delay_had c i (suc t) m ≡ delay_had c i t m + delay_in c t i m
  unfolding sum_below
  delay_more t m = refl

  ledger_rests : (t : ℕ) → Rests c t i → LedgerOf c i t (entry c t) → LedgerOf c i (suc t) (moment c (suc t))
  ledger_rests t r b =
      ledger_moved c i (suc t) _ _ _ _ _ _ (next_on t) r.slot r.delay
      (account_same (task_of c i).work _ _ _ _ (next_of (entry c t) i) (slot_of (entry c t).state i) (get_or (entry c t).delays i 0)
      (λ m. ticks_more t m ∙ rw (r.unserved m) (add-zero _))
      (λ m. delay_more t m ∙ rw (r.undelayed m) (add-zero _))
      b)

  -- there is a slot for the task
  room : (t : ℕ) → i < length (entry c t).state.slots
  room t = omega (arith, a.few, (entry_sized c t).slots)

  ticks_own : (t : ℕ) → Works c t i → (m : ℕ) → ticks_had c i (suc t) m ≡ ticks_had c i t m + cond (eqb (job_in c t i) m) 1 0
  ticks_own t w m = ticks_more t m ∙ rw (w.served m)

  delay_own : (t : ℕ) → Works c t i → (m : ℕ) → delay_had c i (suc t) m ≡ delay_had c i t m + cond (eqb (job_in c t i) m) (delay_to c i (entry c t).state) 0
  delay_own t w m = delay_more t m ∙ rw (w.delayed m)

  ledger_works : (t : ℕ) → on_core c t ≡ Some i → LedgerOf c i t (entry c t) → LedgerOf c i (suc t) (moment c (suc t))
  ledger_works t e b =
      let w = works c a t i known e in
      ledger_moved c i (suc t) _ _ _ _ _ _ (next_on t) w.slot w.delay
      (account_work (task_of c i).work _ _ _ _ (next_of (entry c t) i) (slot_of (entry c t).state i) (get_or (entry c t).delays i 0) (delay_to c i (entry c t).state) (worked_slot c i (entry c t).state)
      (named_live c live t i e).1
      (worked_own c i (entry c t).state (room t))
      (ticks_own t w)
      (delay_own t w)
      b)

  pub ledger_at : (t : ℕ) → LedgerOf c i t (moment c t)
  ledger_at zero = ledger_start
  ledger_at (suc t) =
      let b = ledger_entered t (ledger_at t) in
      ⊎_elim (λ r. ledger_rests t r b) (λ e. ledger_works t e b) (turn c t i)

  pub ledger_entry : (t : ℕ) → LedgerOf c i t (entry c t)
  ledger_entry t = ledger_entered t (ledger_at t)

  -- a job that gets its last tick has had its work and its delays
  pub ledger_closed : (t : ℕ) → on_core c t ≡ Some i → finishes c i (entry c t).state ≡ true
      → (ticks_had c i (suc t) (job_in c t i) ≡ (task_of c i).work + (get_or (entry c t).delays i 0 + delay_to c i (entry c t).state))
      × (delay_had c i (suc t) (job_in c t i) ≡ get_or (entry c t).delays i 0 + delay_to c i (entry c t).state)
  ledger_closed t e h =
      let w = works c a t i known e in
      account_closed (task_of c i).work _ _ (ticks_had c i (suc t)) (delay_had c i (suc t))
      (next_of (entry c t) i) (slot_of (entry c t).state i) (get_or (entry c t).delays i 0) (delay_to c i (entry c t).state) (worked_slot c i (entry c t).state)
      (named_live c live t i e).1
      (worked_own c i (entry c t).state (room t))
      (ticks_own t w)
      (delay_own t w)
      (ledger_entry t)
      (eqb-true (worked_slot c i (entry c t).state).left 0 h)
