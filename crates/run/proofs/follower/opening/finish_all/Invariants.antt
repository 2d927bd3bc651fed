use Rattle.std.proofs.Common.{◌≡◌, ℕ, ◌<◌, get_or}
use Rattle.delay.specs.Marks.{zero_mark}
use Rattle.run.proofs.follower.opening.finish_all.Given as goal

abbrev pub invariant-loop-task : goal.invariant-loop-task
invariant-loop-task g l = record {
  same : g.M.DelayModel.profile l.model ≡ g.M.DelayModel.profile l.initial.model;
  zero : (i : ℕ) → i < l.task → get_or (g.M.DelayModel.marks l.model) i zero_mark ≡ zero_mark;
}
