-- Its records are those of the references.
use Rattle.nm_trace.proofs.ReadAgain.{read-again}
use Rattle.nm_trace.proofs.laws.read_again.Goals as goal

pub returns : goal.returns
returns c = read-again
