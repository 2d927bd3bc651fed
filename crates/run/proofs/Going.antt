-- An advance, tick by tick.
use Rattle.std.proofs.Common.{◌≡◌, ℕ, ◌+◌, ◌-◌, ◌<◌, Bool, true, false, eqb, leb, List, ◌++◌, length, None, Option, refl, sym, ap, ◌∙◌, arith}
use Rattle.std.proofs.Math.Numerals.{add-one}
use Rattle.std.proofs.lemmas.Bool.Decides.{nat_tests}
use Rattle.std.proofs.lemmas.List.{append_assoc, append-nil, length-append}
use Rattle.delay.specs.declared.model.DelayModel as models
use Rattle.dispatch.specs.declared.policy.Policy as policies
use Rattle.row_log.specs.Entries.{entries, full, room}
use Rattle.row_log.specs.declared.journal.Log.{Log}
use Rattle.run.specs.Advances.{Asking, free, stop_after, stop_of}
use Rattle.run.specs.Followers.{clock_in}
use Rattle.run.specs.Runs.{setting_in, shown, shown_at}
use Rattle.run.specs.Written.{SameMemory, job_in, row_list, switch_in, written}
use Rattle.run.specs.declared.runs.Run.{Run}
use Rattle.schedule.specs.Schedules.{summaries}
use Rattle.schedule.specs.States.{Setting}
use Rattle.standing.specs.Standings.{is_open, standing_at}
use Rattle.standing.specs.declared.standings.Standing.{Standing}

-- ---- what a run shows is the schedule's own

pub shows : {P M : Type 0} {p : policies.Ghosts P} {m : models.Ghosts M} (r : Run P M p m) → shown r ≡ shown_at (setting_in r) (clock_in r.follower)
shows r = λ i. record { clock = clock_in r.follower; standing = r.decided i; summaries = summaries (setting_in r) (clock_in r.follower) }

-- ---- the rows of one tick more

pub written_none : {R : Type 0} (f : ℕ → Option R) (t : ℕ) (xs : List R) → xs ≡ xs ++ written f t 0
unfolding written
written_none f t xs = sym (append-nil xs)

pub written_more : {R : Type 0} (f : ℕ → Option R) (t n u : ℕ) (xs ys zs : List R)
    → u ≡ t + n → ys ≡ xs ++ written f t n → zs ≡ ys ++ row_list (f u) → zs ≡ xs ++ written f t (n + 1)
unfolding written
written_more f t n u xs ys zs here before more =
    more
    ∙ ((λ i. before i ++ row_list (f (here i)))
    ∙ (append_assoc xs (written f t n) (row_list (f (t + n))) ∙ ap (λ (k : ℕ). xs ++ written f t k) (sym (add-one n))))

-- ---- why it stops

going_open : (o d j s : Bool) → stop_of o d j s ≡ None → o ≡ true
going_open true d j s e = refl
going_open false d j s e = absurd (cc (e))

-- where an advance goes on, nothing is decided
pub undecided_before : (c : Setting) (q : Asking) (t u : ℕ) → stop_after c t q u ≡ None → is_open (standing_at c (t + u)) ≡ true
undecided_before c q t u = going_open _ (eqb u q.ticks) (leb q.job_rows (length (written (job_in c) t u))) (leb q.switch_rows (length (written (switch_in c) t u)))

room_left : (r l n : ℕ) → leb r (l + n) ≡ leb (r - l) n
room_left r l n = grind (arith, nat_tests)

pub full_after : {R : Type 0} (l m : Log R) (ws : List R) → entries m ≡ entries l ++ ws → SameMemory l m → full m ≡ leb (free l) (length ws)
full_after l m ws more same =
    (λ i. leb (same.room i) (length (more i)))
    ∙ (ap (leb (room l)) (length-append (entries l) ws) ∙ room_left (room l) (length (entries l)) (length ws))

below : (u n : ℕ) → u < n → eqb u n ≡ false
below u n h = grind (arith, nat_tests, h)

pub stop_now : (c : Setting) (t u : ℕ) (q : Asking) (s : Standing) (jobs switches : Bool)
    → s ≡ standing_at c (t + u) → u < q.ticks → jobs ≡ leb q.job_rows (length (written (job_in c) t u)) → switches ≡ leb q.switch_rows (length (written (switch_in c) t u))
    → stop_of (is_open s) false jobs switches ≡ stop_after c t q u
stop_now c t u q s jobs switches stood l j k = λ i. stop_of (is_open (stood i)) (sym (below u q.ticks l) i) (j i) (k i)

pub stood_at : {P M : Type 0} {p : policies.Ghosts P} {m : models.Ghosts M} (r : Run P M p m) (c : Setting) (t : ℕ)
    → setting_in r ≡ c → clock_in r.follower ≡ t → r.standing ≡ standing_at c t
stood_at r c t same here = r.decided ∙ λ i. standing_at (same i) (here i)

pub same_memory : {R : Type 0} {k l m : Log R} → SameMemory k l → SameMemory l m → SameMemory k m
same_memory a b = record { room = b.room ∙ a.room; lender = b.lender ∙ a.lender }

pub own_memory : {R : Type 0} {l : Log R} → SameMemory l l
own_memory = record { room = refl; lender = refl }
