use Rattle.nm_fault_counts.proofs.Faults.{faults-counted}
use Rattle.nm_fault_counts.proofs.counts.a_fault_counts_where_it_ends.Goals as goal

pub returns : goal.returns
returns c = faults-counted
