use Rattle.nm_cpu_marks.proofs.Ending.{processor-off}
use Rattle.nm_cpu_marks.proofs.marks.an_ended_processor_leaves_the_pending_pages.Goals as goal

pub returns : goal.returns
returns c = processor-off
