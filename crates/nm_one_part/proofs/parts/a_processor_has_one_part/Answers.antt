use Rattle.nm_base.specs.Geometry.{Geometry}
use Rattle.nm_script.specs.declared.script.Line.{Line}
use Rattle.std.proofs.Common.{List}
use Rattle.nm_cpu_fault.specs.ProcessorFaults.{processor_faults}
use Rattle.nm_cpu.specs.Programs.{IsProgramMade}
use Rattle.nm_choice.specs.Deterministic.{IsDeterministicActor}
use Rattle.nm_part_choice.proofs.Faults.{fault-one}
use Rattle.nm_cpu_choice.proofs.Making.{program-one}
use Rattle.nm_one_part.proofs.CpuParts.{cpu-next, cpu-ends, cpu-same, cpu-results}
use Rattle.nm_one_part.proofs.parts.a_processor_has_one_part.Goals as goal

one-choice : (g : Geometry) (program : List Line) → IsDeterministicActor (IsProgramMade processor_faults g program)
one-choice g program = program-one processor_faults g program fault-one

pub returns-clause-next : goal.returns-clause-next
returns-clause-next c = λ g number program front rest more t u ended over results others tally other h k. cpu-next processor_faults g number program front rest more t u ended over results others tally other (one-choice g program) h k

pub returns-clause-ends : goal.returns-clause-ends
returns-clause-ends c = λ g number program turns more t ended results others tally other h k. cpu-ends processor_faults g number program turns more t ended results others tally other (one-choice g program) h k

pub returns-clause-same : goal.returns-clause-same
returns-clause-same c = λ g number program turns ended over results others tally other h k. cpu-same processor_faults g number program turns ended over results others tally other (one-choice g program) h k

pub returns-clause-results : goal.returns-clause-results
returns-clause-results c = λ g number program turns ended over results others tally other h k. cpu-results processor_faults g number program turns ended over results others tally other h k
