-- The schedules that the laws speak of. Assumes nothing.
--     Admitted c            the tasks and the hyperperiod of c are those of an admitted plan
use Rattle.std.specs.Prelude.{◌≡◌, ◌≤◌, true, length}
use Rattle.plan.specs.Periods.{IsLcm}
use Rattle.plan.specs.Tasks.{all_of, lawful, periods}
use Rattle.schedule.specs.States.{Setting}

-- What the laws use of a plan; each plan has it by its type.
pub record Admitted (c : Setting) : Type 0 where
  pub few : length c.tasks ≤ 16
  pub keeping : all_of lawful c.tasks ≡ true
  pub repeating : IsLcm c.hyperperiod (periods c.tasks)
