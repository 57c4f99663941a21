-- What was read, and what became of the script, decides the answer.
use Rattle.nm_answer.proofs.Causes.{IsScriptCommand-script, IsScriptCommand-refused}
use Rattle.nm_top.specs.Output.{IsReportOf}
use Rattle.nm_top.proofs.sim.sim_call.Goals as goal

pub returns-in-Ok : goal.returns-in-Ok
returns-in-Ok g c = IsScriptCommand-script _ _ IsReportOf _ _ _ _ _ _ c.in-Ok.ensures.reading c.script_call.ensures

pub returns-in-Err : goal.returns-in-Err
returns-in-Err g c = IsScriptCommand-refused _ _ IsReportOf _ _ _ _ c.in-Err.ensures.reading
