use Rattle.std.proofs.Common.{sym, arith}
use Rattle.plan.proofs.Lines.{within_by_mask}
use Rattle.plan.proofs.blocks.CacheBlocks.is_within.Goals as goal

pub returns : goal.returns
returns c = sym (within_by_mask _ _ (omega arith))
