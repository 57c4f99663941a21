use Rattle.std.proofs.Common.{arith, sym, get_or}
use Rattle.nm_view.specs.Operations.{page_of}
use Rattle.nm_event.specs.Changes.{op_changed}
use Rattle.nm_view.proofs.Places.{found, edit_found, edit-none}
use Rattle.nm_event.proofs.frames.change_in.Goals as goal

pub make_change-requires : goal.make_change-requires
make_change-requires c = c.requires (get_or c.args.ops.now c.in-Some.i c.index-ops-i.result) (found c.in-Some.ensures c.index-ops-i.result)

pub returns-in-Some : goal.returns-in-Some
returns-in-Some c = rw c.make_change.ensures (sym (edit_found page_of c.args.page (op_changed c.args.change) c.in-Some.i c.args.ops.now c.index-ops-i.result c.in-Some.ensures))

pub returns-in_default : goal.returns-in_default
returns-in_default c = grind (arith, edit-none page_of c.args.page (op_changed c.args.change) c.args.ops.now)
