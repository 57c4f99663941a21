-- What was read, and what became of the script, decides the answer.
use Rattle.nm_answer.proofs.Causes.{IsScriptCommand-script, IsScriptCommand-refused}
use Rattle.nm_lab_run.specs.LabRuns.{IsLabOf}
use Rattle.nm_top.proofs.lab.lab_call.Goals as goal

pub returns-in-Ok : goal.returns-in-Ok
returns-in-Ok g c = IsScriptCommand-script _ _ (IsLabOf c.args.retries.now) _ _ _ _ _ _ c.in-Ok.ensures.reading c.write_table.ensures

pub returns-in-Err : goal.returns-in-Err
returns-in-Err g c = IsScriptCommand-refused _ _ (IsLabOf c.args.retries.now) _ _ _ _ c.in-Err.ensures.reading
