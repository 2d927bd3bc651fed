-- What a job row says, and that no tick serves a finished job.
use Rattle.std.proofs.Common.{◌≡◌, ℕ, zero, suc, ◌+◌, ◌<◌, ◌≤◌, Bool, true, false, cond, length, get_or, Some, None, Option, sym, refl, ap, ◌∙◌, ⊎_elim, eq-or-lt_of_le, arith}
use Rattle.std.proofs.lemmas.Bool.{cases_lt, cond-true, false≢true}
use Rattle.dispatch.specs.Rules.{NamesLive}
use Rattle.schedule.specs.Jobs.{due, fresh, release, vacant}
use Rattle.schedule.specs.Rows.{finishes, job_row, job_row_of}
use Rattle.schedule.specs.Schedules.{moment, state_at}
use Rattle.schedule.specs.States.{Moment, Setting, next_of, slot_of, task_of}
use Rattle.schedule.specs.Ticks.{charged, tick}
use Rattle.plan.specs.declared.tasks.Task.{Task}
use Rattle.schedule.specs.declared.rows.JobRow.{JobRow}
use Rattle.schedule.specs.declared.slots.Slot.{Slot}
use Rattle.laws.specs.Service.{job_in, on_core, serves}
use Rattle.laws.specs.Settings.{Admitted}
use Rattle.laws.proofs.Ledgers.{ledger_entry}
use Rattle.laws.proofs.Releases.{next_counted, slot_entered}
use Rattle.laws.proofs.Turns.{entry, named_live, serves_tells, turn, works}

-- The row that tick t writes down if the job of task j gets its last tick in it.
abbrev pub row_of : Setting → ℕ → ℕ → JobRow
row_of c t j = record {
  task = j;
  job = job_in c t j;
  release = release (task_of c j) (job_in c t j);
  finish = t + 1;
  delay = get_or (charged c (Some j) (entry c t)) j 0;
}

pub record Finish (c : Setting) (t : ℕ) (row : JobRow) : Type 0 where
  pub task : ℕ
  pub core : on_core c t ≡ Some task
  pub last : finishes c task (entry c t).state ≡ true
  pub is : row_of c t task ≡ row

pub row_tells : (c : Setting) (t : ℕ) (row : JobRow) → job_row c t (moment c t) ≡ Some row → Finish c t row
unfolding job_row
row_tells c t row h = go (on_core c t) refl
  where
    told : (j : ℕ) (b : Bool) → on_core c t ≡ Some j → finishes c j (entry c t).state ≡ b → cond b (Some (row_of c t j)) None ≡ Some row → Finish c t row
    told j true e f w = record { task = j; core = e; last = f; is = cc }
    told j false e f w = let z : ◌≡◌ {A = ℕ} 0 1 = cc in absurd (omega arith)

    go : (o : Option ℕ) → on_core c t ≡ o → Finish c t row
    go None e = let w : None ≡ Some row = ap (job_row_of c t (entry c t)) (sym e) ∙ h in let z : ◌≡◌ {A = ℕ} 0 1 = cc in absurd (omega arith)
    go (Some j) e = told j (finishes c j (entry c t).state) e refl (ap (job_row_of c t (entry c t)) (sym e) ∙ h)

-- Where no row is written, the task that has the core goes on.
pub goes_on : (c : Setting) (t j : ℕ) → job_row c t (moment c t) ≡ None → on_core c t ≡ Some j → finishes c j (entry c t).state ≡ false
unfolding job_row
goes_on c t j h e = go (finishes c j (entry c t).state) (ap (job_row_of c t (entry c t)) (sym e) ∙ h)
  where
    go : (b : Bool) → cond b (Some (row_of c t j)) None ≡ None → b ≡ false
    go true w = let z : ◌≡◌ {A = ℕ} 0 1 = cc in absurd (omega arith)
    go false w = refl

-- Job m of the task is over, where n is the number of the next job: the live one, if there is one, is a later one.
record Over (m n : ℕ) (s : Slot) : Type 0 where
  past : m + 1 ≤ n
  later : s.live ≡ true → m + 2 ≤ n

-- Job m of task i, in the moment x.
abbrev OverIn : ℕ → ℕ → Moment → Type 0
OverIn i m x = Over m (next_of x i) (slot_of x.state i)

over_release : (k : Task) (m n : ℕ) (s : Slot) (b : Bool) → Over m n s → Over m (cond b (n + 1) n) (cond b (fresh k) s)
over_release k m n s false h = h
over_release k m n s true h = record { past = omega (arith, h.past); later = λ _. omega (arith, h.past) }

module _ (c : Setting) (a : Admitted c) (live : NamesLive c.rule) (i : ℕ) (known : i < length c.tasks) where
  over_entered : (m u : ℕ) → OverIn i m (moment c u) → OverIn i m (entry c u)
  over_entered m u h =
      rw (next_counted c a i known u, slot_entered c a i known u)
      (over_release (task_of c i) m (next_of (moment c u) i) (slot_of (state_at c u) i) (due u (task_of c i) (next_of (moment c u) i)) h)

  over_step : (m u : ℕ) → OverIn i m (moment c u) → OverIn i m (moment c (suc u))
  unfolding moment tick
  over_step m u h =
      let g = over_entered m u h in
      record {
        past = g.past;
        later = λ l. ⊎_elim (λ r. g.later (ap (λ (s : Slot). s.live) (sym r.slot) ∙ l)) (λ e. g.later (named_live c live u i e).1) (turn c u i);
      }

  over_from : (m f u : ℕ) → f ≤ u → OverIn i m (moment c f) → OverIn i m (moment c u)
  over_from m f zero l h = let e : f ≡ 0 = omega arith in rw e at h
  over_from m f (suc u) l h =
      ⊎_elim
      (λ (e : f ≡ suc u). rw e at h)
      (λ (below : f < suc u). over_step m u (over_from m f u (omega arith) h))
      (eq-or-lt_of_le l)

  -- a tick serves the live job only
  over_unserved : (m u : ℕ) → OverIn i m (moment c u) → serves c u i m ≡ true → ⊥
  over_unserved m u h s =
      let it = serves_tells c u i m s in
      omega (arith, (over_entered m u h).later (named_live c live u i it.0).1, it.1)

  -- a job that gets its last tick leaves the slot
  over_start : (t : ℕ) → on_core c t ≡ Some i → finishes c i (entry c t).state ≡ true → OverIn i (job_in c t i) (moment c (suc t))
  unfolding moment tick
  over_start t e f =
      let lives = (named_live c live t i e).1 in
      let gone = (works c a t i known e).slot ∙ cond-true (finishes c i (entry c t).state) vacant _ f in
      record {
        past = omega (arith, (ledger_entry c a live i known t).known lives);
        later = λ l. absurd (false≢true (ap (λ (s : Slot). s.live) (sym gone) ∙ l));
      }

  -- no tick after the last one serves the job
  pub served_before : (t : ℕ) → on_core c t ≡ Some i → finishes c i (entry c t).state ≡ true → (u : ℕ) → serves c u i (job_in c t i) ≡ true → u < t + 1
  served_before t e f u s =
      ⊎_elim
      (λ below. below)
      (λ above. absurd (over_unserved (job_in c t i) u (over_from (job_in c t i) (suc t) u (omega arith) (over_start t e f)) s))
      (cases_lt u (t + 1))
