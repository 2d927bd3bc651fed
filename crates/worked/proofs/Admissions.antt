-- What plan S, whole, cut and with a byte more, is answered.
use Rattle.std.specs.Prelude.{◌≡◌, ℕ, Bool, true, cond, not, List, [], ◌∷◌, ◌++◌, take, Some, None, Ok, Err, Option, refl}
use Rattle.std.proofs.Common.{ap, ◌∙◌, arith}
use Rattle.bits.specs.Bits.{bit, spelled}
use Rattle.fault.specs.declared.Cause.TheVariants.{EndsEarly, ExtraBytes}
use Rattle.fault.specs.declared.Fault.{Fault}
use Rattle.fault.specs.declared.Layer.TheVariants.{Bytes}
use Rattle.plan.specs.Admission.{admission, fault}
use Rattle.plan.specs.Blocks.{every_below}
use Rattle.plan.specs.Periods.{common, common_up_to, hyperperiod_limit}
use Rattle.plan.proofs.AdmissionLaws.{answered}
use Rattle.plan.proofs.Commons.{common_found}
use Rattle.worked.specs.WorkedPlans.{bytes_s, plan_s}

-- to look for a common multiple from the limit down would take too long, so the 12 of plan S is shown instead
found : (ps : List ℕ) → common 12 ps ≡ true → common_up_to hyperperiod_limit ps ≡ true
found ps h = common_found hyperperiod_limit 12 ps (omega arith) (omega arith) h

-- the check of the common period, passed
passed : (found : Bool) (f : Fault) (o : Option Fault) → found ≡ true → cond (not found) (Some f) o ≡ o
passed b f o h = ap (λ (z : Bool). cond (not z) (Some f) o) h

pub s_admitted : admission bytes_s ≡ Ok (plan_s 0)
unfolding bit spelled every_below
s_admitted = answered bytes_s None (passed _ _ _ (found (6 ∷ []) refl) ∙ passed _ _ _ (found (6 ∷ 12 ∷ []) refl))

pub empty_refused : admission [] ≡ Err (fault Bytes EndsEarly None (Some 0))
empty_refused = refl

pub cut_refused : admission (take 59 bytes_s) ≡ Err (fault Bytes EndsEarly (Some 1) (Some 472))
unfolding bit spelled every_below
cut_refused = answered (take 59 bytes_s) (Some (fault Bytes EndsEarly (Some 1) (Some 472))) (passed _ _ _ (found (6 ∷ []) refl))

pub longer_refused : admission (bytes_s ++ (0 ∷ [])) ≡ Err (fault Bytes ExtraBytes None (Some 480))
unfolding bit spelled every_below
longer_refused =
    answered (bytes_s ++ (0 ∷ [])) (Some (fault Bytes ExtraBytes None (Some 480)))
    (passed _ _ _ (found (6 ∷ []) refl) ∙ passed _ _ _ (found (6 ∷ 12 ∷ []) refl))
