-- The report was written, or a write failed.
use Rattle.std.proofs.Common.{subst, sym}
use Rattle.nm_top.specs.Output.{IsThreadReportOf}
use Rattle.nm_answer.proofs.Causes.{SomeTextCause-written}
use Rattle.nm_top.proofs.run.threads_call.Goals as goal

pub returns-in-Ok : goal.returns-in-Ok
returns-in-Ok g c =
    SomeTextCause-written _ _ _ (IsThreadReportOf c.args.script.now) c.deref.result.now c.write_text.result (subst (IsThreadReportOf c.args.script.now) (sym c.deref.ensures.value) c.in-Ok.ensures) c.write_text.ensures
