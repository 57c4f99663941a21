use Rattle.std.proofs.Common.{arith, sym}
use Rattle.nm_view.specs.declared.view.Fill.TheVariants.{Raw}
use Rattle.nm_view.specs.Operations.{owned_frame}
use Rattle.nm_event.specs.After.{filled}
use Rattle.nm_view.proofs.Places.{edit_found, edit-none}
use Rattle.nm_event.proofs.frames.refill_in.Goals as goal

pub returns-in-Some : goal.returns-in-Some
returns-in-Some c = sym (edit_found owned_frame c.args.frame (filled c.args.fill) c.in-Some.i c.args.owned.now (record { frame = 0; fill = Raw }) c.in-Some.ensures)

pub returns-in_default : goal.returns-in_default
returns-in_default c = grind (arith, edit-none owned_frame c.args.frame (filled c.args.fill) c.args.owned.now)
