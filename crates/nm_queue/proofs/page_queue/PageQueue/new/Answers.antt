use Rattle.nm_queue.proofs.Joining.{begins}
use Rattle.nm_queue.proofs.page_queue.PageQueue.new.Goals as goal

pub ruled-requires-clause-rule : goal.ruled-requires-clause-rule
ruled-requires-clause-rule c = begins
