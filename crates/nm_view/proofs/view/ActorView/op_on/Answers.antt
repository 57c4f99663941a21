use Rattle.std.proofs.Common.{arith}
use Rattle.nm_view.proofs.Places.{found}
use Rattle.nm_view.proofs.view.ActorView.op_on.Goals as goal

pub returns-in-Some : goal.returns-in-Some
returns-in-Some c = grind (arith, found c.in-Some.ensures c.index.result.now)
