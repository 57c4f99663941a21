use Rattle.nm_vpages.proofs.Numbers.{none-first}
use Rattle.nm_vpages.proofs.vpage_set.VPageSet.is_empty.Goals as goal

pub returns : goal.returns
returns c = none-first c.args.self.now c.next.result c.is_none.result c.is_none.ensures c.next.ensures.some c.next.ensures.none
