-- Losses told one after another.
use Rattle.std.proofs.Common.{◌≡◌, ℕ, ◌+◌, cond, add-one}
use Rattle.delay.specs.Marks.{changed}
use Rattle.delay.specs.Profiles.{Profile}
use Rattle.schedule.specs.States.{State}
use Rattle.schedule.specs.Ticks.{loses, lost}

pub lost_more : (p : Profile) (j i : ℕ) (s : State) → lost p j (i + 1) s ≡ cond (loses s i j) (changed (lost p j i s) i (p.lose i j)) (lost p j i s)
unfolding lost
lost_more p j i s = rw add-one
