-- The sizes are right.
use Rattle.nm_words.proofs.Groups.{HasSizes-opening}
use Rattle.nm_words.proofs.store.Words.start.Goals as goal

pub returns-clause-sizes : goal.returns-clause-sizes
returns-clause-sizes c = rw c.in_ok-words.ensures (HasSizes-opening c.args.g.now)
