use Rattle.crossbeam_queue.specs.Passes.{ruled_capacity}
use Rattle.nm_queue.proofs.page_queue.PageQueue.push.Given as goal

-- the queue is the one of this call
abbrev pub ghosts-put : goal.ghosts-put
ghosts-put g a = record { capacity = ruled_capacity a.queue.now }
