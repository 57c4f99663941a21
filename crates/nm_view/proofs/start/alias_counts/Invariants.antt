use Rattle.std.proofs.Common.{take}
use Rattle.nm_base.specs.Geometry.{page_count}
use Rattle.nm_view.specs.Opening.{HasCounts}
use Rattle.nm_view.proofs.start.alias_counts.Given as goal

abbrev pub invariant-loop-v : goal.invariant-loop-v
invariant-loop-v l = HasCounts l.counts.items (take l.v l.g.vpages) (page_count l.g)
