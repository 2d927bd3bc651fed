-- Checks in an order. Assumes nothing.
--     Check F               something that may be wrong, and what is answered then
--     check wrong answer    the check with these two parts
--     first_wrong cs        what the first check of cs that is wrong answers, if one is
use Rattle.std.specs.Prelude.{Bool, cond, List, [], ◌∷◌, Some, None, Option}

-- A test, and the answer that goes with it.
pub record Check (F : Type 0) : Type 0 where
  pub wrong : Bool
  pub answer : F

-- Written in one line, a list of checks reads like a table.
abbrev pub check : {F : Type 0} → Bool → F → Check F
check wrong answer = record { wrong = wrong; answer = answer }

-- Later checks are not looked at.
abbrev pub first_wrong : {F : Type 0} → List (Check F) → Option F
first_wrong [] = None
first_wrong (c ∷ cs) = cond c.wrong (Some c.answer) (first_wrong cs)
