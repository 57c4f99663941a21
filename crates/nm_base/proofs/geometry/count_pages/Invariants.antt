use Rattle.std.proofs.Common.{◌≡◌, take}
use Rattle.nm_base.specs.Geometry.{pages_of}
use Rattle.nm_base.proofs.geometry.count_pages.Given as goal

abbrev pub invariant-loop-vpage : goal.invariant-loop-vpage
invariant-loop-vpage l = l.pages ≡ pages_of (take l.vpage-index l.vpages)
