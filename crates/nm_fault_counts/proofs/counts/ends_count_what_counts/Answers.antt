use Rattle.nm_fault_counts.proofs.Tallies.{counted-tally}
use Rattle.nm_fault_counts.proofs.counts.ends_count_what_counts.Goals as goal

pub returns : goal.returns
returns c = counted-tally
