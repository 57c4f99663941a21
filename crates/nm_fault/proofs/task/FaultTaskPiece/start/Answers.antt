use Rattle.std.proofs.Common.{refl, ap}
use Rattle.nm_fault.specs.Tasks.{FaultBegun, fault_in}
use Rattle.nm_fault.proofs.Tasking.{begin-inside, task-first, keeps-first}
use Rattle.nm_fault.proofs.task.FaultTaskPiece.start.Goals as goal

pub start-self-requires-clause-begin : goal.start-self-requires-clause-begin
start-self-requires-clause-begin c = begin-inside _ c.requires.begin

pub returns-clause-step : goal.returns-clause-step
returns-clause-step c = λ g view may.
    task-first _ _ _ _ g view c.start-self.result refl (keeps-first _ _ c.args.self.now _ c.requires.new (ap (λ (made : FaultBegun). (fault_in made).1.page) c.start-self.ensures.made) refl refl) may c.start-self.ensures.step
