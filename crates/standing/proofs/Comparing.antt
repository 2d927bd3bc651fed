-- Which sample an instant takes, and with which it is compared: each is one number.
use Rattle.std.proofs.Common.{◌≡◌, ℕ, ◌+◌, ◌*◌, ◌/◌, ◌<◌, ◌≤◌, sym, ap, ◌∙◌, ⊎_elim, arith}
use Rattle.std.proofs.lemmas.Bool.{cases_lt}
use Rattle.std.proofs.Math.Nat.{mul-div_cancel}
use Rattle.cycle.specs.Comparisons.{GreatestPowerBelow, IsCompared}

-- no two samples are taken at one instant
pub taken_once : (a h j k : ℕ) → 0 < h → a + j * h ≡ a + k * h → j ≡ k
taken_once a h j k pos e =
    let products : j * h ≡ k * h = omega arith in
    sym (mul-div_cancel j pos) ∙ (ap (λ (n : ℕ). n / h) products ∙ mul-div_cancel k pos)

-- no power below is greater
power_reaches : (k p q : ℕ) → GreatestPowerBelow k p → GreatestPowerBelow k q → p ≤ q
power_reaches k p q g h = omega (arith, g.power, h.greatest g.exponent (omega (arith, g.power, g.below)))

pub compared_once : (k p q : ℕ) → IsCompared k p → IsCompared k q → p ≡ q
compared_once k p q g h =
    ⊎_elim
    (λ l. let e : k ≡ 1 = omega (arith, g.earlier) in g.first e ∙ sym (h.first e))
    (λ l. omega (arith, power_reaches k p q (g.later l) (h.later l), power_reaches k q p (h.later l) (g.later l)))
    (cases_lt k 2)
