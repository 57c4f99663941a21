-- The law is kept, kind by kind.
use Rattle.nm_caches.proofs.Kept.{cache_kept}
use Rattle.nm_caches.proofs.laws.each_step_keeps_the_cache_law.Goals as goal

pub returns : goal.returns
returns c = cache_kept
