use Rattle.nm_fault.proofs.Waiting.{search-waits}
use Rattle.nm_fault.proofs.wait.a_search_made_again_waits.Goals as goal

pub returns : goal.returns
returns c = search-waits
