use Rattle.nm_cpu_fault.specs.ProcessorFaults.{processor_faults}
use Rattle.nm_part_choice.proofs.Faults.{fault-one}
use Rattle.nm_cpu_choice.proofs.Making.{program-one}
use Rattle.nm_cpu_choice.proofs.programs.processors_leave_no_choice.Goals as goal

pub returns : goal.returns
returns c = λ g program. program-one processor_faults g program fault-one
