use Rattle.std.proofs.Common.{arith}
use Rattle.nm_view.proofs.Places.{erase_found, erase-none}
use Rattle.nm_view.proofs.keyed.erase.Goals as goal

pub returns-in-Some-clause-items : goal.returns-in-Some-clause-items
returns-in-Some-clause-items g c = grind (arith, c.remove.ensures.items, erase_found c.in-Some.ensures)

pub returns-in_default-clause-items : goal.returns-in_default-clause-items
returns-in_default-clause-items g c = grind (arith, erase-none g.T.Keyed.key c.args.key c.args.items.now.items)
