use Rattle.std.proofs.Common.{◌≡◌, ◌-◌, ◌≤◌, length, take}
use Rattle.nm_vpages.specs.VPages.{vpages_among}
use Rattle.nm_vpages.proofs.vpage_set.VPageSet.of_page.Given as goal

abbrev pub invariant-loop-vpage : goal.invariant-loop-vpage
invariant-loop-vpage l = record { within : l.from ≤ length l.g.vpages; pages : l.pages ≡ vpages_among l.page (take l.from l.g.vpages) 0 }

abbrev pub decreases-loop-vpage : goal.decreases-loop-vpage
decreases-loop-vpage l = length l.g.vpages - l.from
