use Rattle.nm_cpu_counts.proofs.Counting.{processor-counts}
use Rattle.nm_cpu_counts.proofs.counts.a_processor_counts_what_its_list_does.Goals as goal

pub returns : goal.returns
returns c = λ p turns last d. processor-counts _ _ p turns last d
