-- The first action.
use Rattle.nm_cpu_fault.proofs.Steps.{begin-task, first-free}
use Rattle.nm_cpu_fault.proofs.fault.ProcessorFaultPiece.start.Goals as goal

pub start-requires-clause-begin : goal.start-requires-clause-begin
start-requires-clause-begin c = begin-task _ c.requires.begin

pub returns-clause-step : goal.returns-clause-step
returns-clause-step c = λ g view may. first-free _ _ _ g view c.start.result may (c.start.ensures.step g view may.may)
