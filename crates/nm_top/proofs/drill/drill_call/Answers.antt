-- The summary was written, or a write failed.
use Rattle.std.proofs.Common.{subst, sym}
use Rattle.nm_top.specs.Output.{IsSummary}
use Rattle.nm_answer.proofs.Causes.{IsUnreadCall-text, SomeTextCause-written}
use Rattle.nm_top.proofs.drill.drill_call.Goals as goal

pub returns-in-Ok : goal.returns-in-Ok
returns-in-Ok g c =
    IsUnreadCall-text _ _ _ (IsSummary c.args.number c.args.size) _
    (SomeTextCause-written _ _ _ (IsSummary c.args.number c.args.size) c.deref.result.now c.write_text.result (subst (IsSummary c.args.number c.args.size) (sym c.deref.ensures.value) c.in-Ok.ensures) c.write_text.ensures)
