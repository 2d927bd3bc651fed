-- The worst response that is told of a task is the greatest that is known.
use Rattle.std.proofs.Common.{◌≡◌, ◌≢◌, ℕ, zero, suc, ◌+◌, ◌-◌, ◌<◌, ◌≤◌, max, ◌⊎◌, Bool, true, false, cond, length, get_or, Some, None, Option, inl, inr, refl, ap, ◌∙◌, ⊎_elim, eq-or-lt_of_le, subst, sym, arith}
use Rattle.std.proofs.lemmas.Bool.{both_ways, cases_Bool, cases_eq, cases_lt, cond-false, cond-true}
use Rattle.dispatch.specs.Rules.{NamesLive}
use Rattle.schedule.proofs.Eaches.{each_at}
use Rattle.schedule.specs.Jobs.{due, fresh, live_job, release, vacant}
use Rattle.schedule.specs.Responses.{IsWorst, Responded, LiveFor}
use Rattle.schedule.specs.Rows.{finishes, job_row, job_row_of, no_summary}
use Rattle.schedule.specs.Schedules.{age_in, aged, moment, row_summaries, state_at, summaries}
use Rattle.schedule.specs.States.{Setting, next_of, slot_of, task_of}
use Rattle.schedule.specs.Ticks.{tick}
use Rattle.schedule.specs.declared.rows.JobRow.{JobRow}
use Rattle.schedule.specs.declared.slots.Slot.{Slot}
use Rattle.schedule.specs.declared.summaries.Summary.{Summary}
use Rattle.laws.specs.Service.{on_core}
use Rattle.laws.specs.Settings.{Admitted}
use Rattle.laws.proofs.Counts.{moment_next}
use Rattle.laws.proofs.Finishes.{row_of, row_tells}
use Rattle.laws.proofs.Ledgers.{ledger_at}
use Rattle.laws.proofs.Releases.{next_counted, slot_entered, start_next}
use Rattle.laws.proofs.RowSummaries.{length_row_summaries, worst_at, worst_finished, worst_first, worst_unfinished}
use Rattle.laws.proofs.Served.{released_before}
use Rattle.laws.proofs.Serving.{worked_own, worked_slot}
use Rattle.laws.proofs.Sizes.{entry_sized}
use Rattle.laws.proofs.Turns.{entry, turn, works}

-- a job that gets its last tick writes its row
row_written : (c : Setting) (t j : ℕ) → on_core c t ≡ Some j → finishes c j (entry c t).state ≡ true → job_row c t (moment c t) ≡ Some (row_of c t j)
unfolding job_row
row_written c t j e f = ap (job_row_of c t (entry c t)) e ∙ cond-true (finishes c j (entry c t).state) (Some (row_of c t j)) None f

-- Tick t writes the row of a job of task i that responds in r ticks.
record RespondsIn (c : Setting) (t i r : ℕ) : Type 0 where
  row : JobRow
  written : job_row c t (moment c t) ≡ Some row
  task : row.task ≡ i
  response : row.finish ≡ row.release + r

later : (c : Setting) (t i r : ℕ) → Responded c t i r → Responded c (suc t) i r
later c t i r h = record { tick = h.tick; row = h.row; before = omega (arith, h.before); written = h.written; task = h.task; response = h.response }

now : (c : Setting) (t i r : ℕ) → RespondsIn c t i r → Responded c (suc t) i r
now c t i r h = record { tick = t; row = h.row; before = omega arith; written = h.written; task = h.task; response = h.response }

-- what has responded by one instant more
parted : (c : Setting) (t i r : ℕ) → Responded c (suc t) i r → RespondsIn c t i r ⊎ Responded c t i r
parted c t i r h =
    ⊎_elim
    (λ e. inl (record { row = h.row; written = subst (λ (u : ℕ). job_row c u (moment c u) ≡ Some h.row) e h.written; task = h.task; response = h.response }))
    (λ l. inr (record { tick = h.tick; row = h.row; before = l; written = h.written; task = h.task; response = h.response }))
    (eq-or-lt_of_le (let le : h.tick ≤ t = omega (arith, h.before) in le))

-- one response alone
one_response : (c : Setting) (t i r s : ℕ) → RespondsIn c t i r → RespondsIn c t i s → r ≡ s
one_response c t i r s p q =
    let same : p.row ≡ q.row = cc (p.written, q.written) in
    omega (arith, p.response, q.response, ap (λ (z : JobRow). z.finish) same, ap (λ (z : JobRow). z.release) same)

module _ (c : Setting) (a : Admitted c) (live : NamesLive c.rule) (i : ℕ) (known : i < length c.tasks) where
  -- a job finishes after its release
  responds : (t : ℕ) (row : JobRow) → job_row c t (moment c t) ≡ Some row → row.task ≡ i → RespondsIn c t i (row.finish - row.release)
  responds t row h e =
      let f = row_tells c t row h in
      let P : JobRow → Type 0 = λ z. z.release ≤ z.finish in
      let order = subst P f.is (omega (arith, released_before c a live t f.task f.core)) in
      record { row = row; written = h; task = e; response = omega (arith, order) }

  finishing : (t : ℕ)
      → ((row : JobRow) × ((job_row c t (moment c t) ≡ Some row) × (row.task ≡ i)))
      ⊎ ((row : JobRow) → job_row c t (moment c t) ≡ Some row → row.task ≢ i)
  finishing t = go (job_row c t (moment c t)) refl
    where
      go : (o : Option JobRow) → job_row c t (moment c t) ≡ o
          → ((row : JobRow) × ((job_row c t (moment c t) ≡ Some row) × (row.task ≡ i)))
          ⊎ ((row : JobRow) → job_row c t (moment c t) ≡ Some row → row.task ≢ i)
      go None e = inr (λ row h. let z : None ≡ Some row = sym e ∙ h in let w : ◌≡◌ {A = ℕ} 0 1 = cc in absurd (omega arith))
      go (Some row) e =
          ⊎_elim
          (λ own. inl (row, (e, own)))
          (λ other. inr (λ z h own. let same : row ≡ z = cc (e, h) in other (ap (λ (y : JobRow). y.task) same ∙ own)))
          (cases_eq row.task i)

  -- ---- of finished jobs

  -- The greatest response by instant t is w, and 0 where there is none.
  record Greatest (t w : ℕ) : Type 0 where
    bound : (r : ℕ) → Responded c t i r → r ≤ w
    reached : Responded c t i w ⊎ ((w ≡ 0) × ((r : ℕ) → Responded c t i r → ⊥))

  greatest_finished : (t w : ℕ) (row : JobRow) → RespondsIn c t i (row.finish - row.release) → Greatest t w → Greatest (suc t) (max w (row.finish - row.release))
  greatest_finished t w row h g =
      record {
        bound = λ r k. ⊎_elim (λ p. omega (arith, one_response c t i r (row.finish - row.release) p h)) (λ p. omega (arith, g.bound r p)) (parted c t i r k);
        reached = ⊎_elim less more (cases_lt (row.finish - row.release) w);
      }
    where
      Reached : ℕ → Type 0
      Reached v = Responded c (suc t) i v ⊎ ((v ≡ 0) × ((s : ℕ) → Responded c (suc t) i s → ⊥))

      less : row.finish - row.release < w → Reached (max w (row.finish - row.release))
      less l =
          let same : max w (row.finish - row.release) ≡ w = omega (arith, l) in
          rw same (inl (⊎_elim (λ p. later c t i w p) (λ z. absurd (omega (arith, z.0, l))) g.reached))

      more : w ≤ row.finish - row.release → Reached (max w (row.finish - row.release))
      more l = let same : max w (row.finish - row.release) ≡ row.finish - row.release = omega (arith, l) in rw same (inl (now c t i (row.finish - row.release) h))

  greatest_unfinished : (t w : ℕ) → ((row : JobRow) → job_row c t (moment c t) ≡ Some row → row.task ≢ i) → Greatest t w → Greatest (suc t) w
  greatest_unfinished t w none g =
      record {
        bound = λ r k. g.bound r (before r k);
        reached = ⊎_elim (λ p. inl (later c t i w p)) (λ z. inr (z.0, λ r k. z.1 r (before r k))) g.reached;
      }
    where
      before : (r : ℕ) → Responded c (suc t) i r → Responded c t i r
      before r k = ⊎_elim (λ p. absurd (none p.row p.written p.task)) (λ p. p) (parted c t i r k)

  greatest_at : (t : ℕ) → Greatest t (worst_at (row_summaries c t) i)
  greatest_at zero = rw (worst_first c i known) (record { bound = λ r h. absurd (omega (arith, h.before)); reached = inr (refl, λ r h. absurd (omega (arith, h.before))) })
  greatest_at (suc t) =
      ⊎_elim
      (λ f. rw (worst_finished c t i known f.0 f.1.0 f.1.1) (greatest_finished t _ f.0 (responds t f.0 f.1.0 f.1.1) (greatest_at t)))
      (λ none. rw (worst_unfinished c t i known none) (greatest_unfinished t _ none (greatest_at t)))
      (finishing t)

  -- ---- of the live job

  -- it is as old as its release is far back
  live_age : (t : ℕ) → (slot_of (state_at c t) i).live ≡ true
      → t ≡ release (task_of c i) (live_job (next_of (moment c t) i)) + age_in c t (moment c t) i
  live_age t l =
      let past = (moment_next c t i a known).past ((ledger_at c a live i known t).known l) in
      let old = cond-true (slot_of (state_at c t) i).live (t - release (task_of c i) (live_job (next_of (moment c t) i))) 0 l in
      omega (arith, past, old)

  -- ---- of a task of which neither is known

  -- A job of the task has finished or is live, or none has been released.
  abbrev Started : ℕ → Type 0
  Started t = ((r : ℕ) × Responded c t i r) ⊎ (((slot_of (state_at c t) i).live ≡ true) ⊎ (next_of (moment c t) i ≡ 0))

  started_entry : (t : ℕ) → Started t → ((r : ℕ) × Responded c t i r) ⊎ (((slot_of (entry c t).state i).live ≡ true) ⊎ (next_of (entry c t) i ≡ 0))
  started_entry t h = rw (next_counted c a i known t, slot_entered c a i known t) (go (due t (task_of c i) (next_of (moment c t) i)))
    where
      go : (b : Bool) → ((r : ℕ) × Responded c t i r) ⊎ (((cond b (fresh (task_of c i)) (slot_of (state_at c t) i)).live ≡ true) ⊎ (cond b (next_of (moment c t) i + 1) (next_of (moment c t) i) ≡ 0))
      go true = inr (inl refl)
      go false = h

  -- serving makes a live job finish, or leaves it
  started_on : (t : ℕ) → Started t → Started (suc t)
  unfolding moment tick
  started_on t h = ⊎_elim (λ p. inl (p.0, later c t i p.0 p.1)) (λ p. ⊎_elim lives unreleased p) (started_entry t h)
    where
      unreleased : next_of (entry c t) i ≡ 0 → Started (suc t)
      unreleased e = inr (inr e)

      works_on : on_core c t ≡ Some i → (b : Bool) → finishes c i (entry c t).state ≡ b → (slot_of (entry c t).state i).live ≡ true → Started (suc t)
      works_on e true f l =
          let row = row_of c t i in
          inl (row.finish - row.release, now c t i _ (responds t row (row_written c t i e f) refl))
      works_on e false f l =
          let goes_on = (works c a t i known e).slot ∙ cond-false (finishes c i (entry c t).state) vacant (worked_slot c i (entry c t).state) f in
          let lives_on = (worked_own c i (entry c t).state (omega (arith, known, a.few, (entry_sized c t).slots))).live in
          inr (inl (ap (λ (s : Slot). s.live) goes_on ∙ (lives_on ∙ l)))

      lives : (slot_of (entry c t).state i).live ≡ true → Started (suc t)
      lives l =
          ⊎_elim
          (λ r. inr (inl (ap (λ (s : Slot). s.live) r.slot ∙ l)))
          (λ e. works_on e (finishes c i (entry c t).state) refl l)
          (turn c t i)

  started_at : (t : ℕ) → Started t
  started_at zero = inr (inr (start_next c a i known))
  started_at (suc t) = started_on t (started_at t)

  -- ---- of all of them

  -- the summary of the task has the greater of both
  told_at : (t : ℕ) → (get_or (summaries c t) i no_summary).worst ≡ max (worst_at (row_summaries c t) i) (age_in c t (moment c t) i)
  told_at t =
      ap (λ (y : Summary). y.worst)
      (each_at no_summary (length c.tasks) (λ j y. aged (age_in c t (moment c t) j) y) (row_summaries c t) i no_summary known (omega (arith, known, length_row_summaries c t)))

  module _ (t : ℕ) where
    -- of its finished jobs
    longest : ℕ
    longest = worst_at (row_summaries c t) i

    -- of its live one
    age_now : ℕ
    age_now = age_in c t (moment c t) i

    Attained : ℕ → Type 0
    Attained v = (Responded c t i v ⊎ LiveFor c t i v) ⊎ ((v ≡ 0) × (t ≤ (task_of c i).offset))

    attained_live : (slot_of (state_at c t) i).live ≡ true → Attained (max longest age_now)
    unfolding Attained longest age_now
    attained_live l = ⊎_elim younger older (cases_lt age_now longest)
      where
        younger : age_now < longest → Attained (max longest age_now)
        younger h =
            let same : max longest age_now ≡ longest = omega (arith, h) in
            rw same (inl (inl (⊎_elim (λ p. p) (λ z. absurd (omega (arith, z.0, h))) (greatest_at t).reached)))

        older : longest ≤ age_now → Attained (max longest age_now)
        older h = let same : max longest age_now ≡ age_now = omega (arith, h) in rw same (inl (inr (record { live = l; age = live_age t l })))

    attained_vacant : (slot_of (state_at c t) i).live ≡ false → Attained (max longest age_now)
    unfolding Attained longest age_now
    attained_vacant l = rw same (⊎_elim (λ p. inl (inl p)) (λ z. inr (z.0, unreleased z.1)) (greatest_at t).reached)
      where
        same : max longest age_now ≡ longest
        same = omega (arith, cond-false (slot_of (state_at c t) i).live (t - release (task_of c i) (live_job (next_of (moment c t) i))) 0 l)

        unreleased : ((r : ℕ) → Responded c t i r → ⊥) → t ≤ (task_of c i).offset
        unreleased none =
            ⊎_elim
            (λ p. absurd (none p.0 p.1))
            (λ p.
            ⊎_elim
            (λ e. absurd (both_ways _ l e))
            (λ e. let first = ap (λ n. release (task_of c i) n) e in omega (arith, (moment_next c t i a known).ahead, first))
            p)
            (started_at t)

    pub worst_told : IsWorst c t i (get_or (summaries c t) i no_summary).worst
    unfolding Attained longest age_now
    worst_told =
        rw (told_at t)
        (record {
          finished = λ r h. omega (arith, (greatest_at t).bound r h);
          live = λ r h. omega (arith, live_age t h.live, h.age);
          told = ⊎_elim attained_live attained_vacant (cases_Bool (slot_of (state_at c t) i).live);
        })
