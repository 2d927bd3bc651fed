-- What a standing says of the schedule without end.
use Rattle.std.proofs.Common.{◌≡◌, ℕ, ◌+◌, ◌*◌, ◌<◌, ◌≤◌, refl, sym, ap, ◌∙◌, subst, arith}
use Rattle.std.proofs.lemmas.Bool.{both_ways}
use Rattle.std.proofs.Math.Nat.{mul-le-mul_right}
use Rattle.laws.proofs.Deciding.{bound}
use Rattle.laws.proofs.Repeating.{repetition}
use Rattle.laws.specs.Bound.{FewStates}
use Rattle.laws.specs.Settings.{Admitted}
use Rattle.schedule.specs.Jobs.{live_job}
use Rattle.schedule.specs.Schedules.{FirstLate, NeverLate, OnTimeTo, from, moment}
use Rattle.schedule.specs.States.{Setting, next_of}
use Rattle.standing.specs.Decisions.{Decision, Repeated}
use Rattle.standing.specs.Standings.{standing_at}
use Rattle.standing.specs.declared.standings.Standing.{Standing}
use Rattle.standing.specs.declared.standings.Standing.TheVariants.{Open, Misses, Holds}
use Rattle.standing.proofs.Knowing.{Known, standing_known}

-- there is one first late job
first_once : (c : Setting) (u v i j m n : ℕ) → FirstLate c u i m → FirstLate c v j n → ◌≡◌ {A = Standing} (Misses u i m) (Misses v j n)
first_once c u v i j m n f g =
    let instant : u ≡ v = one (λ l. both_ways _ (g.before u l i) f.is_late) (λ l. both_ways _ (f.before v l j) g.is_late) in
    let there = subst (λ (t : ℕ). FirstLate c t i m) instant f in
    let task : i ≡ j = one (λ l. both_ways _ (g.lowest i l) there.is_late) (λ l. both_ways _ (there.lowest j l) g.is_late) in
    let job : m ≡ n = there.job ∙ (ap (λ (k : ℕ). live_job (next_of (moment c v) k)) task ∙ sym g.job) in
    cc (instant, task, job)
  where
    one : {a b : ℕ} → (a < b → ⊥) → (b < a → ⊥) → a ≡ b
    one f g = omega (arith, f, g)

never_late : (c : Setting) → Admitted c → (u k p : ℕ) → OnTimeTo c u → Repeated c u k p → NeverLate c
never_late c a u k p on r = (repetition c a).never p k r.compared.earlier r.equal (subst (OnTimeTo c) r.taken on)

known_first : (c : Setting) → Admitted c → (t : ℕ) (s : Standing) → Known c t s → (u i m : ℕ) → FirstLate c u i m → u ≤ t → s ≡ Misses u i m
known_first c a t Open quiet u i m f l = absurd (both_ways _ ((quiet u l).0 i) f.is_late)
known_first c a t (Misses v j n) known u i m f l = first_once c v u j i n m known.0 f
known_first c a t (Holds v k p) known u i m f l = absurd (both_ways _ (never_late c a v k p known.0 known.1 u i) f.is_late)

found : (c : Setting) → Admitted c → (t V : ℕ) → FewStates c V → from c + 3 * V * c.hyperperiod ≤ t → Known c t Open → ⊥
found c a t V few past quiet =
    let b = bound c a V few in
    let soon : b.number * c.hyperperiod ≤ 3 * V * c.hyperperiod = mul-le-mul_right c.hyperperiod b.soon in
    (quiet (from c + b.number * c.hyperperiod) (omega arith)).1 b.number b.other
    (record { positive = b.positive; taken = refl; compared = b.compared; equal = b.equal })

decision_of : (c : Setting) → Admitted c → (t : ℕ) (s : Standing) → Known c t s → Decision c t s
decision_of c a t s known = record {
  first_late = λ u i m. (λ e. subst (Known c t) e known, λ f. known_first c a t s known u i m f.0 f.1);
  never_late = λ u k p e. let h = subst (Known c t) e known in never_late c a u k p h.0 h.1;
  repeated = λ u k p e. let h = subst (Known c t) e known in (h.1, h.2);
  decides = λ V never few past e. found c a t V few past (subst (Known c t) e known);
}

pub decision : (c : Setting) → Admitted c → (t : ℕ) → Decision c t (standing_at c t)
decision c a t = decision_of c a t (standing_at c t) (standing_known c a t)
