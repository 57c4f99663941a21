use Rattle.std.proofs.Common.{arith}
use Rattle.nm_view.proofs.Places.{found}
use Rattle.nm_view.proofs.keyed.look_up.Goals as goal

pub returns-in-Some : goal.returns-in-Some
returns-in-Some g c = grind (arith, found c.in-Some.ensures c.index-items-i.result)
