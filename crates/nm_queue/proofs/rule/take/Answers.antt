use Rattle.nm_queue.proofs.Keeping.{takes, saw}
use Rattle.nm_queue.proofs.rule.take.Goals as goal

pub pop_as-requires-clause-rule : goal.pop_as-requires-clause-rule
pop_as-requires-clause-rule g c = (takes _ _ c.requires.live, saw _ _ c.requires.live)
