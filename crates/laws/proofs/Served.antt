-- What a job gets of the core, over the whole schedule.
use Rattle.std.proofs.Common.{◌≡◌, ℕ, suc, ◌<◌, ◌≤◌, true, Some, refl, subst, add-one, arith}
use Rattle.dispatch.specs.Rules.{NamesLive}
use Rattle.schedule.specs.Jobs.{release}
use Rattle.schedule.specs.Rows.{finishes, job_row}
use Rattle.schedule.specs.Schedules.{moment}
use Rattle.schedule.specs.States.{Setting, task_of}
use Rattle.schedule.specs.Ticks.{tick}
use Rattle.schedule.specs.declared.rows.JobRow.{JobRow}
use Rattle.laws.specs.Service.{Service, ServedWhole, job_in, on_core, serves}
use Rattle.laws.specs.Settings.{Admitted}
use Rattle.laws.proofs.Ledgers.{ledger_closed, ledger_entry}
use Rattle.laws.proofs.Counts.{moment_next}
use Rattle.laws.proofs.Deadlines.{finished_in_time}
use Rattle.laws.proofs.Displaced.{displaced_by_switch}
use Rattle.laws.proofs.Finishes.{row_tells, row_of, served_before}
use Rattle.laws.proofs.ReleaseTicks.{release_vacated, releases_apart, releases_once}
use Rattle.laws.proofs.Serving.{charged_own}
use Rattle.laws.proofs.Sizes.{entry_sized}
use Rattle.laws.proofs.Turns.{entry, named_live, serves_tells}

-- One task has the core, with one job.
served_alone : (c : Setting) (t i m j n : ℕ) → serves c t j n ≡ true → serves c t i m ≡ true → (i ≡ j) × (m ≡ n)
served_alone c t i m j n p q =
    let first = serves_tells c t j n p in
    let second = serves_tells c t i m q in
    let same : i ≡ j = cc (first.0, second.0) in
    (same, cc (first.1, second.1, same))

module _ (c : Setting) (a : Admitted c) (live : NamesLive c.rule) where
  -- the job of a task that has the core has been released
  pub released_before : (t i : ℕ) → on_core c t ≡ Some i → release (task_of c i) (job_in c t i) ≤ t
  unfolding moment tick
  released_before t i e =
      let there = named_live c live t i e in
      let some = (ledger_entry c a live i there.0 t).known there.1 in
      let past : release (task_of c i) (job_in c t i) < suc t = (moment_next c (suc t) i a there.0).past some in
      omega arith

  served_after : (t i m : ℕ) → serves c t i m ≡ true → release (task_of c i) m ≤ t
  served_after t i m h =
      let it = serves_tells c t i m h in
      rw it.1 at (released_before t i it.0)

  served_row : (t j : ℕ) → on_core c t ≡ Some j → finishes c j (entry c t).state ≡ true → ServedWhole c t (row_of c t j)
  served_row t j e f =
      let known = (named_live c live t j e).0 in
      let closed = ledger_closed c a live j known t e f in
      let charge = charged_own c j (entry c t) (omega (arith, a.few, (entry_sized c t).delays)) in
      record {
        known = known;
        released = refl;
        finished = refl;
        within = λ u s. (served_after u j (job_in c t j) s, served_before c a live j known t e f u s);
        alone = λ u i m p q. served_alone c u i m j (job_in c t j) p q;
        ticks = rw (add-one, charge) closed.0;
        delays = rw (add-one, charge) closed.1;
      }

  pub served_whole : (t : ℕ) (row : JobRow) → job_row c t (moment c t) ≡ Some row → ServedWhole c t row
  served_whole t row h =
      let f = row_tells c t row h in
      let P : JobRow → Type 0 = ServedWhole c t in
      subst P f.is (served_row t f.task f.core f.last)

pub service : (c : Setting) → Admitted c → NamesLive c.rule → Service c
service c a live =
    record {
      served = served_whole c a live;
      in_time = finished_in_time c a live;
      releases = releases_once c a;
      apart = releases_apart c;
      vacated = release_vacated c a live;
      displaced = displaced_by_switch c;
    }
