-- The setting of an admitted plan is the one that its content tells. Assumes nothing.
use Rattle.std.specs.Prelude.{◌≡◌, ℕ, ◌<◌, ◌≤◌, true, false, List, Option, nat_lt}
use Rattle.std.specs.Option.{unwrap_or}
use Rattle.std.proofs.Common.{sym, ap, ⊎_elim, arith}
use Rattle.std.proofs.lemmas.Bool.{and_from, and_parts, cases_Bool}
use Rattle.std.proofs.lemmas.Bool.Decides.{nat_tests}
use Rattle.std.proofs.lemmas.Nat.Gcd.{le_of_dvd}
use Rattle.dispatch.specs.Urgencies.{first_some}
use Rattle.order.specs.declared.Order.{Order}
use Rattle.plan.specs.Periods.{IsLcm, common}
use Rattle.plan.specs.Plans.{content_of, tasks_in}
use Rattle.plan.specs.Tasks.{periods}
use Rattle.plan.specs.declared.admitted.Plan.{Plan}
use Rattle.plan.specs.declared.tasks.Task.{Task}
use Rattle.planning.specs.Settings.{common_period, hyperperiod_of, profile_of, rule_of, setting_for}
use Rattle.schedule.specs.States.{setting_of}

above_zero : (n : ℕ) → 0 < n → nat_lt 0 n ≡ true
above_zero n h = grind (arith, nat_tests)

positive : (n : ℕ) → nat_lt 0 n ≡ true → 0 < n
positive n e = grind (arith, nat_tests)

none_below : (tasks : List Task) (h : ℕ) → IsLcm h (periods tasks) → (k : ℕ) → k < h → common_period tasks k ≡ false
none_below tasks h l k less =
    ⊎_elim
    (λ e.
    let parts = and_parts (nat_lt 0 k) (common k (periods tasks)) e in
    absurd (omega (arith, less, le_of_dvd (positive k parts.0) (l.2 k parts.1))))
    (λ e. e)
    (cases_Bool (common_period tasks k))

pub hyperperiod_is : (tasks : List Task) (h : ℕ) → IsLcm h (periods tasks) → h ≤ 1000000000 → hyperperiod_of tasks ≡ h
hyperperiod_is tasks h l limited =
    ap (λ (o : Option ℕ). unwrap_or o 0)
    (first_some 1000000001 h (common_period tasks) (omega (arith, limited)) (and_from (nat_lt 0 h) _ (above_zero h l.0) l.1) (none_below tasks h l))

pub setting_is : (order : Order) (plan : Plan) → setting_of plan (rule_of order (content_of plan)) (profile_of order (content_of plan)) ≡ setting_for order (content_of plan)
setting_is order plan =
    ap (λ (h : ℕ). record { tasks = tasks_in plan; rule = rule_of order (content_of plan); profile = profile_of order (content_of plan); hyperperiod = h })
    (sym (hyperperiod_is (tasks_in plan) plan.hyperperiod.ticks plan.repeating plan.hyperperiod.limited))
