-- The worked cases are right. Schedules and models by a test that is computed, admissions by what is known of plan S.
use Rattle.std.specs.Prelude.{◌≡◌, suc, ◌+◌, ◌*◌, Bool, true, false, not, ◌&&◌, List, [], ◌∷◌, ◌++◌, All, ◌==◌, refl, slice_index_or}
use Rattle.std.specs.List.{AllByRecursion, list_all}
use Rattle.std.proofs.lemmas.Bool.{and_parts, both_ways, eqb-true}
use Rattle.std.proofs.lemmas.List.Elements.{All-append, All-cons, All-nil}
use Rattle.std.proofs.lemmas.List.Sums.{AllPass-from_list_all}
use Rattle.delay.specs.MarkLaws.{mark_eq}
use Rattle.delay.specs.Marks.{changed, keeping, zero_mark}
use Rattle.plan.specs.Tasks.{periods}
use Rattle.schedule.specs.Schedules.{from, sample, summaries}
use Rattle.worked.specs.Cases.{Case, Right, admission_cases, cases, model_cases, schedule_cases}
use Rattle.worked.specs.Cases.Case.{admitted, differ_in_kept, differ_in_running, holds, misses, refused, resumes, shows}
use Rattle.worked.proofs.Admissions.{cut_refused, empty_refused, longer_refused, s_admitted}
use Rattle.worked.proofs.Computing.{schedules}
use Rattle.schedule.specs.StateLaws.{equal_same, same_state}
use Rattle.worked.proofs.Equalities.{marks_eq, other_number, other_task, same_mark, same_marks, same_slots, same_summaries, same_task, slots_eq, summaries_eq, task_eq}
use Rattle.worked.proofs.Lateness.{first_late, first_late_test, on_time_to, quiet_before}
use Rattle.worked.proofs.Periods.{is_lcm, lcm_among}

-- part by part as in `Right`; admissions have no test, since they are not found by computing alone
abbrev test : Case → Bool
test (misses c t i m ys) = lcm_among c.hyperperiod (periods c.tasks) && (first_late_test c t i m && summaries_eq (summaries c t) ys)
test (holds c t k i ys) =
    lcm_among c.hyperperiod (periods c.tasks)
    && (t == from c + k * c.hyperperiod && (same_state (sample c k) (sample c i) && (quiet_before c (suc t) && summaries_eq (summaries c t) ys)))
test (shows c t ys) = quiet_before c (suc t) && summaries_eq (summaries c t) ys
test (differ_in_kept c i k j a b) =
    slots_eq (sample c i).slots (sample c k).slots
    && (task_eq (sample c i).running (sample c k).running
    && ((slice_index_or (sample c i).marks j zero_mark).kept.lines == a
    && (marks_eq (sample c k).marks (changed (sample c i).marks j (keeping b)) && not (a == b))))
test (differ_in_running c i k a b) =
    slots_eq (sample c i).slots (sample c k).slots
    && (marks_eq (sample c i).marks (sample c k).marks
    && (task_eq (sample c i).running a && (task_eq (sample c k).running b && not (task_eq a b))))
test (resumes p i k d after) = p.answer i k == d && mark_eq (p.resume i k) after
test (admitted bs c) = false
test (refused bs cause row bit) = false

told : (case : Case) → test case ≡ true → Right case
told (misses c t i m ys) h =
    let x = and_parts (lcm_among c.hyperperiod (periods c.tasks)) _ h in
    let y = and_parts (first_late_test c t i m) _ x.1 in
    record {
      hyperperiod = is_lcm _ _ x.0;
      first = first_late c t i m y.0;
      summed = same_summaries _ _ y.1;
    }
told (holds c t k i ys) h =
    let x = and_parts (lcm_among c.hyperperiod (periods c.tasks)) _ h in
    let y = and_parts (t == from c + k * c.hyperperiod) _ x.1 in
    let z = and_parts (same_state (sample c k) (sample c i)) _ y.1 in
    let w = and_parts (quiet_before c (suc t)) _ z.1 in
    record {
      hyperperiod = is_lcm _ _ x.0;
      instant = eqb-true t _ y.0;
      equal = (equal_same _ _).0 z.0;
      on_time = on_time_to c t w.0;
      summed = same_summaries _ _ w.1;
    }
told (shows c t ys) h =
    let x = and_parts (quiet_before c (suc t)) _ h in
    record { on_time = on_time_to c t x.0; summed = same_summaries _ _ x.1 }
told (differ_in_kept c i k j a b) h =
    let x = and_parts (slots_eq (sample c i).slots (sample c k).slots) _ h in
    let y = and_parts (task_eq (sample c i).running (sample c k).running) _ x.1 in
    let z = and_parts ((slice_index_or (sample c i).marks j zero_mark).kept.lines == a) _ y.1 in
    let w = and_parts (marks_eq (sample c k).marks (changed (sample c i).marks j (keeping b))) _ z.1 in
    record {
      slots = same_slots _ _ x.0;
      running = same_task _ _ y.0;
      before = eqb-true _ a z.0;
      after = same_marks _ _ w.0;
      apart = other_number a b w.1;
    }
told (differ_in_running c i k a b) h =
    let x = and_parts (slots_eq (sample c i).slots (sample c k).slots) _ h in
    let y = and_parts (marks_eq (sample c i).marks (sample c k).marks) _ x.1 in
    let z = and_parts (task_eq (sample c i).running a) _ y.1 in
    let w = and_parts (task_eq (sample c k).running b) _ z.1 in
    record {
      slots = same_slots _ _ x.0;
      marks = same_marks _ _ y.0;
      before = same_task _ a z.0;
      after = same_task _ b w.0;
      apart = other_task a b w.1;
    }
told (resumes p i k d after) h =
    let x = and_parts (p.answer i k == d) _ h in
    (eqb-true _ d x.0, same_mark _ after x.1)
told (admitted bs c) h = absurd (both_ways _ refl h)
told (refused bs cause row bit) h = absurd (both_ways _ refl h)

all_told : (ks : List Case) → list_all test ks ≡ true → All Right ks
all_told ks h k d l = told (slice_index_or ks k d) (AllPass-from_list_all test ks h k d l)

schedules_pass : list_all test schedule_cases ≡ true
unfolding schedules
schedules_pass = refl

models_pass : list_all test model_cases ≡ true
unfolding schedules
models_pass = refl

all_each : (ks : List Case) → AllByRecursion Right ks → All Right ks
all_each [] h = All-nil Right
all_each (k ∷ ks) h = All-cons Right k ks h.0 (all_each ks h.1)

admissions_right : All Right admission_cases
admissions_right = all_each admission_cases (empty_refused, (cut_refused, (s_admitted, (longer_refused, tt))))

pub all_right : All Right cases
all_right =
    All-append Right schedule_cases (model_cases ++ admission_cases)
    (all_told schedule_cases schedules_pass)
    (All-append Right model_cases admission_cases (all_told model_cases models_pass) admissions_right)
