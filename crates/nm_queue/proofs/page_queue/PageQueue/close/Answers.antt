use Rattle.nm_queue.proofs.Joining.{wholes}
use Rattle.nm_queue.proofs.page_queue.PageQueue.close.Goals as goal

pub len_as-held-requires-clause-rule : goal.len_as-held-requires-clause-rule
len_as-held-requires-clause-rule g c = wholes _ _ c.pass.invariant.1
