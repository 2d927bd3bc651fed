-- What a delay model does to one mark. Assumes nothing.
--     Profile           what each call makes of the mark of its task, and what a resume answers
use Rattle.std.specs.Prelude.{ℕ}
use Rattle.delay.specs.declared.mark.Mark.{Mark}

-- Each function takes the number of the task and its mark, and lose the number of the task it loses to between them.
pub record Profile : Type 0 where
  pub begin : ℕ → Mark → Mark
  pub lose : ℕ → ℕ → Mark → Mark
  pub spend : ℕ → Mark → Mark
  pub resume : ℕ → Mark → Mark
  pub answer : ℕ → Mark → ℕ
