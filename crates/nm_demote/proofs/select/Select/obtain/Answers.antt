use Rattle.std.proofs.Common.{arith}
use Rattle.nm_demote.proofs.select.Select.obtain.Goals as goal

pub overflow_add-tier_of : goal.overflow_add-tier_of
overflow_add-tier_of c = let few = c.requires.geometry.ranges.1.1 in omega (arith, few, c.tier_of.ensures.within.exists)
