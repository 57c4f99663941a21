-- The table was written, or a write failed.
use Rattle.std.proofs.Common.{subst, sym}
use Rattle.nm_lab_run.specs.LabRuns.{IsLabOf}
use Rattle.nm_answer.proofs.Causes.{SomeTextCause-written}
use Rattle.nm_top.proofs.lab.write_table.Goals as goal

pub returns-in-Ok : goal.returns-in-Ok
returns-in-Ok g c =
    SomeTextCause-written _ _ _ (IsLabOf c.args.retries.now c.args.script.now) c.deref.result.now c.write_text.result (subst (IsLabOf c.args.retries.now c.args.script.now) (sym c.deref.ensures.value) c.in-Ok.ensures) c.write_text.ensures
