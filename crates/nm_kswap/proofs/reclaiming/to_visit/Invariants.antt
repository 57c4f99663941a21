use Rattle.std.proofs.Common.{◌≡◌}
use Rattle.nm_kswap.specs.Stages.{to_visit}
use Rattle.nm_kswap.specs.Knowing.{AreHands}
use Rattle.nm_kswap.proofs.reclaiming.to_visit.Given as goal

abbrev pub invariant-loop-left : goal.invariant-loop-left
invariant-loop-left l =
    (to_visit l.g l.last l.tier l.level l.left l.kept ≡ to_visit l.g l.last l.tier l.level l.fn.left l.fn.kept) × AreHands l.g l.kept.hands

abbrev pub decreases-loop-left : goal.decreases-loop-left
decreases-loop-left l = l.left
