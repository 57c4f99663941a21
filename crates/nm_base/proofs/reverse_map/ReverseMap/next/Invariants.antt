use Rattle.std.proofs.Common.{length}
use Rattle.nm_base.specs.Chains.{IsNextFromBelow}
use Rattle.nm_base.proofs.Chains.{left_at}
use Rattle.nm_base.proofs.reverse_map.ReverseMap.next.Given as goal

abbrev pub invariant-loop-at : goal.invariant-loop-at
invariant-loop-at l = IsNextFromBelow l.vpages l.page l.from l.at

abbrev pub decreases-loop-at : goal.decreases-loop-at
decreases-loop-at l = left_at (length l.vpages) l.at
