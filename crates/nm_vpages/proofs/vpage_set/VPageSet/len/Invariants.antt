use Rattle.std.proofs.Common.{◌≡◌, ◌+◌, length}
use Rattle.nm_vpages.specs.VPages.{at_or_after}
use Rattle.nm_vpages.proofs.vpage_set.VPageSet.len.Given as goal

abbrev pub invariant-loop-vpage : goal.invariant-loop-vpage
invariant-loop-vpage l = l.count + length (at_or_after l.from l.self) ≡ length l.self

abbrev pub decreases-loop-vpage : goal.decreases-loop-vpage
decreases-loop-vpage l = length (at_or_after l.from l.self)
