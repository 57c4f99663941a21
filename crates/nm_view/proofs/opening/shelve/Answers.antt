use Rattle.std.proofs.Common.{◌<◌, length, arith, sym}
use Rattle.nm_view.specs.Operations.{page_of}
use Rattle.nm_view.proofs.Places.{erase_found, erase-none}
use Rattle.nm_view.proofs.Closing.{all_removed}
use Rattle.nm_view.proofs.opening.shelve.Goals as goal

pub returns-in-Some-clause-ops : goal.returns-in-Some-clause-ops
returns-in-Some-clause-ops c = grind (arith, c.remove-op.ensures.items, erase_found c.in-Some.ensures)

pub returns-in-Some-clause-room : goal.returns-in-Some-clause-room
returns-in-Some-clause-room c = let lt : c.in-Some.i < length c.args.ops.now.items = rw (sym c.deref.ensures.value) c.in-Some.ensures.within in all_removed c.args.room c.args.ops.now.items c.args.closed.now.items c.in-Some.i c.remove-op.result c.requires.open c.requires.closed lt c.remove-op.ensures.value _ c.push_reserved.ensures.items

pub returns-in_default-clause-ops : goal.returns-in_default-clause-ops
returns-in_default-clause-ops c = grind (arith, erase-none page_of c.args.page c.args.ops.now.items)
