-- What is guaranteed in every life of a run.
use Rattle.std.proofs.Common.{◌≡◌, ℕ, ◌+◌, ◌-◌, ◌<◌, ◌≤◌, ◌∙◌, inl, inr, ⊎_elim, Bool, true, false, cond, eqb, leb, ltb, not, List, [], ◌∷◌, length, Some, None, Ok, Err, Result, refl, sym, ap, subst, arith}
use Rattle.std.proofs.lemmas.Bool.{cases_lt, eqb-true, leb-true, ltb-true}
use Rattle.std.proofs.lemmas.List.Elements.{All-cons, All-nil}
use Rattle.std.specs.List.{All}
use Rattle.dispatch.specs.Rules.{NamesLive}
use Rattle.fault.specs.declared.Cause.TheVariants.{AdvanceTooLong, PastLastInstant, RunClosed}
use Rattle.fault.specs.declared.Fault.{Fault}
use Rattle.laws.specs.Settings.{Admitted}
use Rattle.run.proofs.Beginning.{first_summaries}
use Rattle.run.proofs.Going.{undecided_before}
use Rattle.run.proofs.Truths.{UndecidedBefore, late_told, worst_shown_at}
use Rattle.run.specs.Advances.{Answered, Asking, refusal, run_fault, stop_after, stop_of}
use Rattle.run.specs.Lives.{Because, Call, Guarantee, Life, Refusable, Worked, ticks_of}
use Rattle.run.specs.Lives.Life.{advanced, cleared, opened, queried}
use Rattle.run.specs.Lives.Refusable.{closed, too_far, too_long}
use Rattle.run.specs.Runs.{Shown, opening, shown_at}
use Rattle.run.specs.Truth.{TrueOf}
use Rattle.run.specs.Written.{job_in, switch_in, written}
use Rattle.run.specs.declared.advances.Advance.{Advance}
use Rattle.run.specs.declared.advances.Stop.{Stop}
use Rattle.schedule.specs.Schedules.{row_summaries}
use Rattle.schedule.specs.States.{Setting}
use Rattle.standing.specs.declared.standings.Standing.TheVariants.{Open}
use Rattle.standing.proofs.Deciding.{decision}
use Rattle.standing.specs.Standings.{is_open, standing_at}

told : {X : Type 0} {a b : X} → Some a ≡ Some b → a ≡ b
told e = cc

-- the reason that is told is one
because : (c : Setting) (q : Asking) (t u : ℕ) (s : Stop) → stop_after c t q u ≡ Some s → Because c q t u s
because c q t u s = go (is_open (standing_at c (t + u))) refl (eqb u q.ticks) refl (leb q.job_rows (length (written (job_in c) t u))) refl (leb q.switch_rows (length (written (switch_in c) t u))) refl
  where
    go : (o : Bool) → is_open (standing_at c (t + u)) ≡ o → (d : Bool) → eqb u q.ticks ≡ d → (j : Bool) → leb q.job_rows (length (written (job_in c) t u)) ≡ j
        → (k : Bool) → leb q.switch_rows (length (written (switch_in c) t u)) ≡ k → stop_of o d j k ≡ Some s → Because c q t u s
    go false x d y j z k w e = subst (Because c q t u) (told e) x
    go true x true y j z k w e = subst (Because c q t u) (told e) (eqb-true u q.ticks y)
    go true x false y true z k w e = subst (Because c q t u) (told e) (leb-true _ _ z)
    go true x false y false z true w e = subst (Because c q t u) (told e) (leb-true _ _ w)
    go true x false y false z false w e = absurd (cc (e))

refusable : (n : ℕ) (x : Shown) (f : Fault) → refusal n x ≡ Some f → Refusable n x f
refusable n x f = go (ltb 1000000000 n) refl (is_open x.standing) refl (ltb 1000000000000 (x.clock + n)) refl
  where
    go : (l : Bool) → ltb 1000000000 n ≡ l → (o : Bool) → is_open x.standing ≡ o → (p : Bool) → ltb 1000000000000 (x.clock + n) ≡ p
        → cond l (Some (run_fault AdvanceTooLong)) (cond (not o) (Some (run_fault RunClosed)) (cond p (Some (run_fault PastLastInstant)) None)) ≡ Some f → Refusable n x f
    go true y o z p w e = subst (Refusable n x) (told e) (too_long (ltb-true _ _ y))
    go false y false z p w e = subst (Refusable n x) (told e) (closed z)
    go false y true z true w e = subst (Refusable n x) (told e) (too_far (ltb-true _ _ w))
    go false y true z false w e = absurd (cc (e))

record Kept (c : Setting) (h : List Call) (x : Shown) : Type 0 where
  stood : x ≡ shown_at c x.clock
  undecided : UndecidedBefore c x.clock
  ticks : x.clock ≡ ticks_of h
  works : All (Worked c) h

started : (c : Setting) → Admitted c → Kept c [] (opening c)
unfolding standing_at row_summaries
started c a = record { stood = λ i. record { clock = 0; standing = Open; summaries = sym (first_summaries c a) i }; undecided = inl refl; ticks = refl; works = All-nil (Worked c) }

-- each tick that is done is done where nothing is decided
undecided_on : (c : Setting) (q : Asking) (t : ℕ) (a : Advance) → UndecidedBefore c t → ((u : ℕ) → u < a.ticks → stop_after c t q u ≡ None) → UndecidedBefore c (t + a.ticks)
undecided_on c q t a before going = ⊎_elim none some (cases_lt a.ticks 1)
  where
    none : a.ticks < 1 → UndecidedBefore c (t + a.ticks)
    none l = let same : t + a.ticks ≡ t = omega (arith, l) in rw same before

    some : 1 ≤ a.ticks → UndecidedBefore c (t + a.ticks)
    some l =
        let last : t + (a.ticks - 1) ≡ t + a.ticks - 1 = omega (arith, l) in
        inr (ap (λ (u : ℕ). is_open (standing_at c u)) (sym last) ∙ undecided_before c q t (a.ticks - 1) (going (a.ticks - 1) (omega (arith, l))))

went_on : (c : Setting) (h : List Call) (x y : Shown) (q : Asking) (r : Result Advance Fault) → Kept c h x → Answered c q x y r → Kept c (record { asked = q; before = x; answer = r } ∷ h) y
went_on c h x y q (Ok a) kept (none, went) =
    subst (Kept c (record { asked = q; before = x; answer = Ok a } ∷ h)) (sym went.led)
    (record { stood = refl; undecided = undecided_on c q x.clock a kept.undecided went.going; ticks = ap (λ (n : ℕ). n + a.ticks) kept.ticks; works = All-cons (Worked c) _ h (because c q x.clock a.ticks a.stop went.stopped) kept.works })
went_on c h x y q (Err f) kept (some, same) =
    subst (Kept c (record { asked = q; before = x; answer = Err f } ∷ h)) (sym same)
    (record { stood = kept.stood; undecided = kept.undecided; ticks = omega (arith, kept.ticks); works = All-cons (Worked c) _ h (refusable q.ticks x f some) kept.works })

kept : (c : Setting) → Admitted c → (h : List Call) (x : Shown) → Life c h x → Kept c h x
kept c p h x (opened e) = subst (Kept c []) (sym e) (started c p)
kept c p h x (advanced {h = before} {x = y} q r life a) = went_on c before y x q r (kept c p before y life) a
kept c p h x (cleared {x = y} life e) = subst (Kept c h) (sym e) (kept c p h y life)
kept c p h x (queried {x = y} life e) = subst (Kept c h) (sym e) (kept c p h y life)

pub guaranteed : (c : Setting) → Admitted c → NamesLive c.rule → (h : List Call) (x : Shown) → Life c h x → Guarantee c h x
guaranteed c a live h x life =
    let k = kept c a h x life in
    record {
      ticks = k.ticks;
      truth = subst (TrueOf c) (sym k.stood) (record { decision = decision c a x.clock; worst = worst_shown_at c a live x.clock; late_shown = λ u i m e. late_told c a live x.clock u i m k.undecided e });
      works = k.works;
    }
