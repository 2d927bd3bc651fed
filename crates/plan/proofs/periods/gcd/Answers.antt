use Rattle.std.proofs.Common.{◌≡◌, ℕ, subst, arith}
use Rattle.plan.proofs.Multiples.{Euclid, euclid_start, euclid_step, euclid_end}
use Rattle.plan.proofs.periods.gcd.Goals as goal

pub loop-y-init : goal.loop-y-init
loop-y-init c = euclid_start _ _

pub loop-y-preserved : goal.loop-y-preserved
loop-y-preserved c = euclid_step _ _ _ _ c.loop-y.invariant

pub returns : goal.returns
returns c =
    let done : c.loop-y.y ≡ 0 = omega arith in
    euclid_end _ _ _ (subst (λ (z : ℕ). Euclid c.args.a c.args.b c.loop-y.x z) done c.loop-y.invariant)
