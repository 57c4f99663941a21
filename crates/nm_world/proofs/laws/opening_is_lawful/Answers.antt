-- All the groups hold at first.
use Rattle.nm_world.proofs.Opening.{AreAll-start}
use Rattle.nm_world.proofs.laws.opening_is_lawful.Goals as goal

pub returns : goal.returns
returns c = AreAll-start
