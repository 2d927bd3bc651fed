-- What a run shows is true of its schedule.
use Rattle.std.proofs.Common.{◌≡◌, ℕ, ◌-◌, ◌<◌, ◌≤◌, ◌⊎◌, true, ltb, List, length, get_or, sym, ap, ◌∙◌, subst, ⊎_elim, arith}
use Rattle.std.proofs.lemmas.Bool.{and_parts, both_ways, cases_lt, eqb-true, ltb-true}
use Rattle.std.proofs.lemmas.List.{get_or-take}
use Rattle.delay.specs.declared.model.DelayModel as models
use Rattle.dispatch.specs.Rules.{NamesLive}
use Rattle.dispatch.specs.declared.policy.Policy as policies
use Rattle.laws.proofs.Plans.{admitted_plan}
use Rattle.laws.proofs.Responses.{worst_told}
use Rattle.laws.proofs.RowSummaries.{length_row_summaries}
use Rattle.laws.specs.Settings.{Admitted}
use Rattle.run.proofs.Going.{shows}
use Rattle.run.specs.Followers.{clock_in}
use Rattle.run.specs.Runs.{setting_in, shown, shown_at}
use Rattle.run.specs.Truth.{WorstShown, worst_in}
use Rattle.run.specs.declared.runs.Run.{Run}
use Rattle.schedule.proofs.Eaches.{each_at, length_each}
use Rattle.schedule.specs.Jobs.{deadline_at, live_job}
use Rattle.schedule.specs.Responses.{LiveFor}
use Rattle.schedule.specs.Rows.{no_summary}
use Rattle.schedule.specs.Schedules.{FirstLate, age_in, aged, late, moment, row_summaries}
use Rattle.schedule.specs.States.{Setting, next_of, slot_of, task_of}
use Rattle.schedule.specs.Tables.{plan_of}
use Rattle.schedule.specs.declared.summaries.Summary.{Summary}
use Rattle.standing.proofs.Deciding.{decision}
use Rattle.standing.specs.Standings.{is_open, standing_at}
use Rattle.standing.specs.declared.standings.Standing.TheVariants.{Misses}

-- ---- the worst response of each task

pub worst_shown_at : (c : Setting) → Admitted c → NamesLive c.rule → (t : ℕ) → WorstShown c (shown_at c t)
worst_shown_at c a live t i l = worst_told c a live i l t

module _ {P M : Type 0} {p : policies.Ghosts P} {m : models.Ghosts M} (r : Run P M p m) where
  pub admitted_run : Admitted (setting_in r)
  admitted_run = admitted_plan (plan_of r.follower.schedule) (setting_in r).rule (setting_in r).profile

  pub worst_shown : NamesLive (setting_in r).rule → WorstShown (setting_in r) (shown r)
  worst_shown live = subst (WorstShown (setting_in r)) (sym (shows r)) (worst_shown_at (setting_in r) admitted_run live (clock_in r.follower))

  pub length_shown : length (shown r).summaries ≡ length (setting_in r).tasks
  length_shown = length_each no_summary (length (setting_in r).tasks) _ _ ∙ length_row_summaries (setting_in r) (clock_in r.follower)

  -- one after another
  pub summary_shown : (i : ℕ) (d : Summary) → i < length (setting_in r).tasks
      → get_or (shown r).summaries i d
      ≡ aged (age_in (setting_in r) (clock_in r.follower) (moment (setting_in r) (clock_in r.follower)) i) (get_or r.counts.rows i no_summary)
  summary_shown i d l =
      each_at no_summary (length (setting_in r).tasks) _ (row_summaries (setting_in r) (clock_in r.follower)) i d l
      (omega (arith, length_row_summaries (setting_in r) (clock_in r.follower), l))
      ∙ ap (aged _) (ap (λ (ys : List Summary). get_or ys i no_summary) (sym r.counted) ∙ get_or-take (length (setting_in r).tasks) r.counts.rows i no_summary l)

-- ---- the late task at MISSES

-- a late job is as old as its deadline is long
late_age : (c : Setting) (t i : ℕ) → late c t i ≡ true → (i < length c.tasks) × LiveFor c t i (task_of c i).deadline
late_age c t i h =
    let outer = and_parts (ltb i (length c.tasks)) _ h in
    let inner = and_parts (slot_of (moment c t).state i).live _ outer.1 in
    (ltb-true _ _ outer.0, record { live = inner.0; age = eqb-true t (deadline_at (task_of c i) (live_job (next_of (moment c t) i))) inner.1 })

-- Nothing was decided one instant before.
abbrev pub UndecidedBefore : Setting → ℕ → Type 0
UndecidedBefore c t = (t ≡ 0) ⊎ (is_open (standing_at c (t - 1)) ≡ true)

-- so MISSES names the instant that has been reached
misses_now : (c : Setting) → Admitted c → (t u i m : ℕ) → UndecidedBefore c t → standing_at c t ≡ Misses u i m → u ≡ t
misses_now c a t u i m before e = ⊎_elim first later before
  where
    reached : FirstLate c u i m × (u ≤ t)
    reached = ((decision c a t).first_late u i m).0 e

    first : t ≡ 0 → u ≡ t
    first z = omega (arith, z, reached.1)

    later : is_open (standing_at c (t - 1)) ≡ true → u ≡ t
    later o = ⊎_elim (λ l. absurd (earlier l)) (λ l. omega (arith, l, reached.1)) (cases_lt u t)
      where
        earlier : u < t → ⊥
        earlier l =
            let told = ((decision c a (t - 1)).first_late u i m).1 (reached.0, omega (arith, l)) in
            both_ways _ (ap is_open told) o

pub late_told : (c : Setting) → Admitted c → NamesLive c.rule → (t u i m : ℕ) → UndecidedBefore c t → standing_at c t ≡ Misses u i m
    → (u ≡ t) × ((task_of c i).deadline ≤ worst_in (shown_at c t) i)
late_told c a live t u i m before e =
    let now = misses_now c a t u i m before e in
    let there = subst (λ (v : ℕ). FirstLate c v i m) now (((decision c a t).first_late u i m).0 e).0 in
    let old = late_age c t i there.is_late in
    (now, (worst_shown_at c a live t i old.0).live (task_of c i).deadline old.1)
