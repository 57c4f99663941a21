use Rattle.nm_vpages.proofs.Sets.{members-zero}
use Rattle.nm_vpages.proofs.vpage_set.VPageSet.clear.Goals as goal

pub returns : goal.returns
returns c = members-zero 64
