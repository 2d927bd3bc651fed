-- The comparison comes to an answer.
use Rattle.std.proofs.Common.{◌≡◌, ℕ, suc, ◌+◌, ◌-◌, ◌*◌, ◌^◌, ◌<◌, ◌≤◌, max, List, length, get_or, sym, ap, ◌∙◌, arith}
use mathlib.Core.List.{Memᴰ}
use Rattle.cycle.specs.Comparisons.{compared_with}
use Rattle.cycle.specs.Machines.{Machine, sample}
use Rattle.cycle.specs.Theorems.{Among, FoundBy, FoundSoon}
use Rattle.cycle.proofs.Compared.{compared_power}
use Rattle.cycle.proofs.Futures.{samples_after}
use Rattle.cycle.proofs.Pigeonholes.{pigeonhole}
use Rattle.cycle.proofs.Powers.{reach_power}

place : {S : Type 0} {s : S} {l : List S} → Memᴰ s l → ℕ
place (Memᴰ.head e) = 0
place (Memᴰ.tail p) = suc (place p)

place_within : {S : Type 0} {s : S} {l : List S} (p : Memᴰ s l) → place p < length l
unfolding place
place_within (Memᴰ.head e) = omega arith
place_within (Memᴰ.tail p) = let h = place_within p in omega arith

at_place : {S : Type 0} {s : S} {l : List S} (d : S) (p : Memᴰ s l) → s ≡ get_or l (place p) d
unfolding place
at_place d (Memᴰ.head e) = e
at_place d (Memᴰ.tail p) = at_place d p

-- Two of the samples 0 to V are equal.
pub record Again {S : Type 0} (m : Machine S) (V : ℕ) : Type 0 where
  pub first : ℕ
  pub second : ℕ
  pub ordered : first < second
  pub within : second ≤ V
  pub equal : sample m first ≡ sample m second

-- where samples of one number are equal, and the numbers are below V
pub again_by_places : {S : Type 0} (m : Machine S) (V : ℕ) (at : ℕ → ℕ) → ((k : ℕ) → at k < V)
    → ((i j : ℕ) → at i ≡ at j → sample m i ≡ sample m j) → Again m V
again_by_places m V at small apart =
    let t = pigeonhole V at (λ i _. small i) in
    record {
      first = t.first;
      second = t.second;
      ordered = t.ordered;
      within = t.within;
      equal = apart t.first t.second t.equal;
    }

pub again_among : {S : Type 0} (m : Machine S) (V : ℕ) → Among m V → Again m V
again_among m V a =
    again_by_places m V (λ k. place (a.all k)) (λ k. omega (arith, place_within (a.all k), a.few))
    (λ i j e. at_place m.start (a.all i) ∙ (ap (λ n. get_or a.states n m.start) e ∙ sym (at_place m.start (a.all j))))

-- from the first of two equal samples on, every sample equals the one that lies as far after it as the second after the first
again_later : {S : Type 0} (m : Machine S) (i j p : ℕ) → i < j → sample m i ≡ sample m j → i ≤ p → sample m (p + (j - i)) ≡ sample m p
again_later m i j p h e l =
    let here : p ≡ i + (p - i) = omega arith in
    let there : p + (j - i) ≡ j + (p - i) = omega arith in
    ap (sample m) there ∙ (sym (samples_after m i j e (p - i)) ∙ ap (sample m) (sym here))

-- the two equal samples lie d apart: found at d after the least power of two that is no less than d and than the first of them
pub found_again : {S : Type 0} (m : Machine S) (V n : ℕ) → Again m V → 3 * V ≤ suc n → FoundBy m n
found_again m V n a w =
    let d : ℕ = a.second - a.first in
    let r = reach_power (max a.first d) (omega arith) in
    let p : ℕ = 2 ^ r.exponent in
    let c : compared_with (p + d) ≡ p = compared_power (p + d) r.exponent (omega arith) (omega arith) in
    record {
      number = p + d;
      positive = omega arith;
      soon = omega arith;
      equal = again_later m a.first a.second p a.ordered a.equal (omega arith) ∙ ap (sample m) (sym c);
    }

pub found_soon : (S : Type 0) → FoundSoon S
found_soon S m V a = found_again m V (3 * V) (again_among m V a) (omega arith)
