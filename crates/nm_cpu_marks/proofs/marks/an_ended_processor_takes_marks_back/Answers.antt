use Rattle.nm_cpu_marks.proofs.Ending.{processor-unmarking}
use Rattle.nm_cpu_marks.proofs.marks.an_ended_processor_takes_marks_back.Goals as goal

pub returns : goal.returns
returns c = processor-unmarking
