-- A common multiple of some numbers that is one of them is their least.
use Rattle.std.specs.Prelude.{◌≡◌, ℕ, Bool, true, false, ◌%◌, ◌&&◌, ◌||◌, List, [], ◌∷◌, ◌==◌, nat_lt, refl}
use Rattle.std.specs.Int.{◌∣◌}
use Rattle.std.proofs.Common.{⊎_elim, sym, subst}
use Rattle.std.proofs.lemmas.Bool.{and_parts, both_ways, eqb-true, ltb-true, or_cases}
use Rattle.std.proofs.lemmas.Nat.Gcd.{dvd_of_mod-eq-zero}
use Rattle.plan.specs.Periods.{IsLcm, common}

abbrev pub among : ℕ → List ℕ → Bool
among n [] = false
among n (t ∷ ts) = n == t || among n ts

divides : (n m : ℕ) (ts : List ℕ) → among n ts ≡ true → common m ts ≡ true → n ∣ m
divides n m [] a h = absurd (both_ways _ refl a)
divides n m (t ∷ ts) a h =
    let parts = and_parts (m % t == 0) _ h in
    ⊎_elim
    (λ same. subst (λ (z : ℕ). z ∣ m) (sym (eqb-true n t same)) (dvd_of_mod-eq-zero t (eqb-true (m % t) 0 parts.0)))
    (λ later. divides n m ts later parts.1)
    (or_cases (n == t) (among n ts) a)

abbrev pub lcm_among : ℕ → List ℕ → Bool
lcm_among n ts = nat_lt 0 n && (common n ts && among n ts)

pub is_lcm : (n : ℕ) (ts : List ℕ) → lcm_among n ts ≡ true → IsLcm n ts
is_lcm n ts h =
    let first = and_parts (nat_lt 0 n) _ h in
    let rest = and_parts (common n ts) _ first.1 in
    (ltb-true 0 n first.0, rest.0, λ m k. divides n m ts rest.1 k)
