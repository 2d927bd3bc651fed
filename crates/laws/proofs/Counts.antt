-- Which job of a task comes next at an instant.
use Rattle.std.proofs.Common.{◌≡◌, ℕ, zero, suc, ◌+◌, ◌-◌, ◌*◌, ◌<◌, ◌≤◌, length, get_or, replicate, refl, ap, ◌∙◌, ⊎_elim, mul-le-mul_right, arith}
use native.Mathlib.Decide.{dec_le}
use Rattle.std.proofs.lemmas.List.{get_or-replicate}
use Rattle.std.proofs.lemmas.Bool.{cases_eq, cases_order, cond-false, cond-true, eq-eqb, ne_eqb}
use Rattle.plan.specs.declared.tasks.Task.{Task}
use Rattle.schedule.proofs.Eaches.{each_at, length_each}
use Rattle.schedule.specs.Each.{each}
use Rattle.schedule.specs.Jobs.{counted, due, release}
use Rattle.schedule.specs.Schedules.{moment}
use Rattle.schedule.specs.States.{Setting, next_of, task_of}
use Rattle.schedule.specs.Ticks.{tick}
use Rattle.laws.specs.Repetition.{next_at}
use Rattle.laws.specs.Settings.{Admitted}
use Rattle.laws.proofs.Plans.{planned}

-- Job n is the next one at instant t, before the releases of t: it is not released before t, and the job before it is.
pub record Next (k : Task) (t n : ℕ) : Type 0 where
  pub ahead : t ≤ release k n
  pub past : 1 ≤ n → release k (n - 1) < t

pub next_first : (k : Task) → Next k 0 0
next_first k = record { ahead = omega arith; past = λ l. absurd (omega arith) }

pub counted_due : (t : ℕ) (k : Task) (n : ℕ) → t ≡ release k n → counted t k n ≡ n + 1
counted_due t k n e = cond-true (due t k n) (n + 1) n (eq-eqb t (release k n) e)

pub counted_not_due : (t : ℕ) (k : Task) (n : ℕ) → (t ≡ release k n → ⊥) → counted t k n ≡ n
counted_not_due t k n e = cond-false (due t k n) (n + 1) n (ne_eqb t (release k n) e)

-- a release at t makes way for the next job, and nothing else does
pub next_counted : (k : Task) (t n : ℕ) → 1 ≤ k.period → Next k t n → Next k (suc t) (counted t k n)
next_counted k t n positive x = ⊎_elim now later (cases_eq t (release k n))
  where
    now : t ≡ release k n → Next k (suc t) (counted t k n)
    now e = rw (counted_due t k n e) (record { ahead = omega arith; past = λ _. let m : n + 1 - 1 ≡ n = omega arith in rw m (omega arith) })

    later : (t ≡ release k n → ⊥) → Next k (suc t) (counted t k n)
    later e = rw (counted_not_due t k n e) (record { ahead = omega (arith, x.ahead); past = λ l. let h = x.past l in omega arith })

not_before : (k : Task) (t m n : ℕ) → Next k t m → Next k t n → m < n → ⊥
not_before k t m n x y l =
    let h : release k (n - 1) < t = y.past (omega arith) in
    let o : m ≤ n - 1 = omega arith in
    omega (arith, x.ahead, mul-le-mul_right k.period o)

-- the instant leaves one number only
pub next_one : (k : Task) (t m n : ℕ) → Next k t m → Next k t n → m ≡ n
next_one k t m n x y =
    ⊎_elim (λ e. e) (⊎_elim (λ l. absurd (not_before k t m n x y l)) (λ l. absurd (not_before k t n m y x l))) (cases_order m n)

-- a job that is released at t is the next one before its release
pub next_released : (k : Task) (t n m : ℕ) → 1 ≤ k.period → Next k t n → t ≡ release k m → n ≡ m
next_released k t n m positive x e = next_one k t n m x (record { ahead = omega arith; past = λ l. let less : m ≡ m - 1 + 1 = omega arith in omega (arith, ap (λ j. j * k.period) less) })

-- one period before the release of a job, the job before it is released
pub release_last : (k : Task) (n : ℕ) → 1 ≤ n → release k n ≡ release k (n - 1) + k.period
release_last k n l = let less : n ≡ n - 1 + 1 = omega arith in omega (arith, ap (λ j. j * k.period) less)

-- after the first release, so many periods later it is so many jobs later
pub next_later : (k : Task) (t n q : ℕ) → 1 ≤ k.period → k.offset ≤ t → Next k t n → Next k (t + q * k.period) (n + q)
next_later k t n q positive o x = record { ahead = omega (arith, x.ahead); past = λ l. go l (dec_le 1 n) }
  where
    go : 1 ≤ n + q → Dec (1 ≤ n) → release k (n + q - 1) < t + q * k.period
    go l (yes h) =
        let before : release k (n - 1) < t = x.past h in
        let m : n + q - 1 ≡ n - 1 + q = omega arith in
        rw m (omega arith)
    go l (no h) =
        let m : n + q - 1 ≡ q - 1 = omega arith in
        let less : q ≡ q - 1 + 1 = omega arith in
        rw m (omega (arith, ap (λ j. j * k.period) less))

pub length_next_at : (c : Setting) (t : ℕ) → length (next_at c t) ≡ 16
unfolding next_at
length_next_at c zero = refl
length_next_at c (suc t) = length_each 0 (length c.tasks) (λ i n. counted t (task_of c i) n) (next_at c t) ∙ length_next_at c t

-- The number of the next job of task i.
abbrev pub number_at : Setting → ℕ → ℕ → ℕ
number_at c t i = get_or (next_at c t) i 0

pub number_counted : (c : Setting) (t i : ℕ) → Admitted c → i < length c.tasks → number_at c (suc t) i ≡ counted t (task_of c i) (number_at c t i)
unfolding next_at
number_counted c t i a l =
    each_at 0 (length c.tasks) (λ i n. counted t (task_of c i) n) (next_at c t) i 0 l (omega (arith, length_next_at c t, a.few))

pub number_next : (c : Setting) (t i : ℕ) → Admitted c → i < length c.tasks → Next (task_of c i) t (number_at c t i)
unfolding next_at
number_next c zero i a l =
    let e : ◌≡◌ {A = ℕ} (get_or (replicate 16 0) i 0) 0 = get_or-replicate 16 i 0 0 (omega (arith, a.few)) in
    rw e (next_first (task_of c i))
number_next c (suc t) i a l =
    let o = (planned c a i l).order in
    rw (number_counted c t i a l) (next_counted (task_of c i) t (number_at c t i) (omega arith) (number_next c t i a l))

-- the schedule counts releases and nothing else
pub next_by_instant : (c : Setting) (t : ℕ) → (moment c t).next ≡ next_at c t
unfolding moment tick next_at
next_by_instant c zero = refl
next_by_instant c (suc t) = ap (each 0 (length c.tasks) (λ i n. counted t (task_of c i) n)) (next_by_instant c t)

pub moment_next : (c : Setting) (t i : ℕ) → Admitted c → i < length c.tasks → Next (task_of c i) t (next_of (moment c t) i)
moment_next c t i a l = rw (next_by_instant c t) (number_next c t i a l)

-- one hyperperiod later, each task is as many jobs on as it has turns in it
pub number_later : (c : Setting) (t i : ℕ) (a : Admitted c) (l : i < length c.tasks) → (task_of c i).offset ≤ t
    → number_at c (t + c.hyperperiod) i ≡ number_at c t i + (planned c a i l).turns
number_later c t i a l o =
    let p = planned c a i l in
    let later = next_later (task_of c i) t (number_at c t i) p.turns (omega arith) o (number_next c t i a l) in
    let e : t + c.hyperperiod ≡ t + p.turns * (task_of c i).period = omega arith in
    rw e (next_one (task_of c i) (t + p.turns * (task_of c i).period) _ _ (number_next c (t + p.turns * (task_of c i).period) i a l) later)

-- after its first release a task has a last job
pub number_positive : (c : Setting) (t i : ℕ) → Admitted c → i < length c.tasks → (task_of c i).offset < t → 1 ≤ number_at c t i
number_positive c t i a l o = go (number_at c t i) (number_next c t i a l)
  where
    go : (n : ℕ) → Next (task_of c i) t n → 1 ≤ n
    go zero x = absurd (omega (arith, x.ahead))
    go (suc n) x = omega arith
