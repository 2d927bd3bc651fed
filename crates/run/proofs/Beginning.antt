-- A run before its first tick.
use Rattle.std.proofs.Common.{◌≡◌, ℕ, zero, suc, ◌*◌, ◌<◌, ◌≤◌, get_or, length, replicate, take, refl, sym, ap, ◌∙◌, arith}
use Rattle.std.proofs.lemmas.List.{get_or-replicate, take-replicate}
use Rattle.laws.proofs.Releases.{start_slot}
use Rattle.laws.specs.Settings.{Admitted}
use Rattle.run.proofs.Sampling.{compared_first}
use Rattle.run.specs.Counts.{Within}
use Rattle.run.specs.Watches.{Watching}
use Rattle.run.specs.declared.watch.Watch.{Watch}
use Rattle.schedule.proofs.Eaches.{each_still}
use Rattle.schedule.specs.Jobs.{age}
use Rattle.schedule.specs.Rows.{no_summary}
use Rattle.schedule.specs.Schedules.{age_in, aged, from, moment, row_summaries, summaries}
use Rattle.schedule.specs.States.{Setting, next_of, task_of}
use Rattle.schedule.specs.declared.slots.Slot.{Slot}
use Rattle.standing.specs.Standings.{standing_at}
use Rattle.standing.specs.declared.standings.Standing.TheVariants.{Open}

pub first_watch : (c : Setting) (t : ℕ) (w : Watch) → t ≡ 0 → w.period.ticks ≡ c.hyperperiod → w.next ≡ from c → w.number ≡ 0 → w.earlier ≡ 0 → Watching c t w
first_watch c t w begun period next number earlier =
    let none = ap (λ (n : ℕ). n * c.hyperperiod) number in
    record {
      period = period;
      next = omega (arith, next, none);
      ahead = omega (arith, begun);
      recent = λ l. absurd (omega (arith, l, number));
      earlier = earlier ∙ sym (compared_first w.number number);
      kept = λ l. absurd (omega (arith, l, number));
    }

pub first_standing : (c : Setting) (t : ℕ) → t ≡ 0 → Open ≡ standing_at c t
unfolding standing_at
first_standing c t begun = ap (standing_at c) (sym begun)

pub first_row_summaries : (c : Setting) (t : ℕ) → t ≡ 0 → length c.tasks ≤ 16 → take (length c.tasks) (replicate 16 no_summary) ≡ row_summaries c t
unfolding row_summaries
first_row_summaries c t begun few = take-replicate (length c.tasks) 16 no_summary few ∙ ap (row_summaries c) (sym begun)

pub first_within : (n t : ℕ) → Within t (replicate n no_summary)
first_within zero t i = (omega arith, omega arith)
first_within (suc n) t zero = (omega arith, omega arith)
first_within (suc n) t (suc i) = first_within n t i

-- at instant 0 no job is live, so none has an age
pub first_summaries : (c : Setting) → Admitted c → summaries c 0 ≡ replicate (length c.tasks) no_summary
unfolding row_summaries
first_summaries c a = each_still no_summary (length c.tasks) _ _ (λ i l. unaged i l)
  where
    unaged : (i : ℕ) → i < length c.tasks → aged (age_in c 0 (moment c 0) i) (get_or (replicate (length c.tasks) no_summary) i no_summary) ≡ get_or (replicate (length c.tasks) no_summary) i no_summary
    unaged i l =
        let none : age_in c 0 (moment c 0) i ≡ 0 = ap (λ (s : Slot). age 0 (task_of c i) (next_of (moment c 0) i) s) (start_slot c a i l) in
        let same : get_or (replicate (length c.tasks) no_summary) i no_summary ≡ no_summary = get_or-replicate (length c.tasks) i no_summary no_summary l in
        rw (none, same) refl
