-- Common multiples of a list: one period more, and whether there is one up to a limit.
use Rattle.std.proofs.Common.{◌≡◌, ℕ, zero, suc, ◌%◌, ◌<◌, ◌≤◌, Bool, true, false, ◌&&◌, eqb, List, [], ◌∷◌, ◌++◌, sym, refl, subst, ⊎_elim, eq-or-lt_of_le, arith}
use Prim.Native.Nat.{◌∣◌}
use native.Mathlib.Nat.{dvd_trans, le_of_dvd, mod-zero, mod-eq-zero_of_dvd, dvd_of_mod-eq-zero}
use Rattle.std.proofs.lemmas.Bool.{eq-eqb, eqb-true, and_parts, and_from, or_left, or_right, or_from, and_left, and_right, ne_eqb, cases_Bool}
use Rattle.plan.specs.Periods.{common, common_up_to, IsLcm, Joins}

divides : (t m : ℕ) → eqb (m % t) 0 ≡ true → t ∣ m
divides t m e = dvd_of_mod-eq-zero t (eqb-true (m % t) 0 e)

divided : (t m : ℕ) → t ∣ m → eqb (m % t) 0 ≡ true
divided t m e = eq-eqb (m % t) 0 (mod-eq-zero_of_dvd t e)

-- a multiple of a common multiple is one too
pub common_over : (h m : ℕ) (ts : List ℕ) → common h ts ≡ true → h ∣ m → common m ts ≡ true
common_over h m [] e d = refl
common_over h m (t ∷ ts) e d =
    let s = and_parts (eqb (h % t) 0) (common h ts) e in
    and_from _ _ (divided t m (dvd_trans t (divides t h s.0) d)) (common_over h m ts s.1 d)

pub common_push : (m t : ℕ) (ts : List ℕ) → common m ts ≡ true → t ∣ m → common m (ts ++ (t ∷ [])) ≡ true
common_push m t [] e d = and_from _ _ (divided t m d) refl
common_push m t (u ∷ ts) e d =
    let s = and_parts (eqb (m % u) 0) (common m ts) e in
    and_from _ _ s.0 (common_push m t ts s.1 d)

pub common_pushed : (m t : ℕ) (ts : List ℕ) → common m (ts ++ (t ∷ [])) ≡ true → (common m ts ≡ true) × (t ∣ m)
common_pushed m t [] e = (refl, divides t m (and_parts (eqb (m % t) 0) true e).0)
common_pushed m t (u ∷ ts) e =
    let s = and_parts (eqb (m % u) 0) (common m (ts ++ (t ∷ []))) e in
    let r = common_pushed m t ts s.1 in
    (and_from _ _ s.0 r.0, r.1)

pub lcm_none : IsLcm 1 []
lcm_none = (omega arith, refl, λ m e. dvd_of_mod-eq-zero 1 (omega arith))

pub lcm_push : (h t n : ℕ) (ts : List ℕ) → IsLcm h ts → Joins n h t → IsLcm n (ts ++ (t ∷ []))
lcm_push h t n ts l j = (
  j.positive,
  common_push n t ts (common_over h n ts l.1 j.left) j.right,
  λ m e. let s = common_pushed m t ts e in j.least m (l.2 m s.0) s.1,
)

-- a common multiple up to the limit is found
pub common_found : (k n : ℕ) (ts : List ℕ) → 0 < n → n ≤ k → common n ts ≡ true → common_up_to k ts ≡ true
unfolding common_up_to
common_found zero n ts p q e = absurd (omega arith)
common_found (suc k) n ts p q e =
    ⊎_elim
    (λ same. or_left (common (suc k) ts) (common_up_to k ts) (subst (λ (z : ℕ). common z ts ≡ true) same e))
    (λ below. or_right (common (suc k) ts) (common_up_to k ts) (common_found k n ts p (omega arith) e))
    (eq-or-lt_of_le q)

-- there is none below the least
pub common_missing : (k n : ℕ) (ts : List ℕ) → k < n → IsLcm n ts → common_up_to k ts ≡ false
unfolding common_up_to
common_missing zero n ts p l = refl
common_missing (suc k) n ts p l =
    or_from (common (suc k) ts) (common_up_to k ts)
    (⊎_elim
    (λ found. let above : n ≤ suc k = le_of_dvd (omega arith) (l.2 (suc k) found) in absurd (omega arith))
    (λ none. none)
    (cases_Bool (common (suc k) ts)))
    (common_missing k n ts (omega arith) l)

-- no positive number is a multiple of 0
pub zero_joins_none : (k h : ℕ) → common_up_to k (h ∷ 0 ∷ []) ≡ false
unfolding common_up_to
zero_joins_none zero h = refl
zero_joins_none (suc k) h =
    let some : suc k % 0 ≡ 0 → ⊥ = λ e. omega (arith, mod-zero (suc k)) in
    or_from (common (suc k) (h ∷ 0 ∷ [])) (common_up_to k (h ∷ 0 ∷ []))
    (and_right (eqb (suc k % h) 0) _ (and_left (eqb (suc k % 0) 0) true (ne_eqb (suc k % 0) 0 some)))
    (zero_joins_none k h)

pub lcm_pair : (n h t : ℕ) → Joins n h t → IsLcm n (h ∷ t ∷ [])
lcm_pair n h t j = (
  j.positive,
  and_from _ _ (divided h n j.left) (and_from _ _ (divided t n j.right) refl),
  λ m e.
      let s = and_parts (eqb (m % h) 0) (eqb (m % t) 0 && true) e in
      j.least m (divides h m s.0) (divides t m (and_parts (eqb (m % t) 0) true s.1).0),
)

same_answer : (a b : Bool) → (a ≡ true → b ≡ true) → (b ≡ true → a ≡ true) → a ≡ b
same_answer true b f g = sym (f refl)
same_answer false true f g = g refl
same_answer false false f g = refl

-- the common multiples of some periods and one more are those of their least common multiple and it
common_as_joined : (h t m : ℕ) (ts : List ℕ) → IsLcm h ts → common m (h ∷ t ∷ []) ≡ common m (ts ++ (t ∷ []))
common_as_joined h t m ts l =
    same_answer (common m (h ∷ t ∷ [])) (common m (ts ++ (t ∷ [])))
    (λ e.
    let s = and_parts (eqb (m % h) 0) (eqb (m % t) 0 && true) e in
    common_push m t ts (common_over h m ts l.1 (divides h m s.0)) (divides t m (and_parts (eqb (m % t) 0) true s.1).0))
    (λ e.
    let s = common_pushed m t ts e in
    and_from _ _ (divided h m (l.2 m s.0)) (and_from _ _ (divided t m s.1) refl))

pub common_joined : (k h t : ℕ) (ts : List ℕ) → IsLcm h ts → common_up_to k (h ∷ t ∷ []) ≡ common_up_to k (ts ++ (t ∷ []))
unfolding common_up_to
common_joined zero h t ts l = refl
common_joined (suc k) h t ts l =
    let here = common_as_joined h t (suc k) ts l in
    let below = common_joined k h t ts l in
    cc
