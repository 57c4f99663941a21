use Rattle.std.proofs.Common.{◌≤◌, length}
use Rattle.nm_base.specs.Chains.{AreChains}
use Rattle.nm_base.proofs.reverse_map.link_all.Given as goal

abbrev pub invariant-loop-vpage : goal.invariant-loop-vpage
invariant-loop-vpage l = record { within : l.vpage ≤ length l.vpages; chains : AreChains l.vpages l.vpage l.first l.next }

abbrev pub decreases-loop-vpage : goal.decreases-loop-vpage
decreases-loop-vpage l = l.vpage
