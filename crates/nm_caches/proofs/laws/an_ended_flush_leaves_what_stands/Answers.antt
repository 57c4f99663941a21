-- Nobody is owed any more.
use Rattle.nm_caches.proofs.Given.{entry_stands}
use Rattle.nm_caches.proofs.laws.an_ended_flush_leaves_what_stands.Goals as goal

pub returns : goal.returns
returns c g m a b o all here ended = entry_stands g m a b o all.shape all.locks all.caches here ended
