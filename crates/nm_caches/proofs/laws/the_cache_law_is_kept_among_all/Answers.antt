-- The other groups have what the law takes from them.
use Rattle.nm_caches.proofs.Kept.{cache_kept_of}
use Rattle.nm_caches.proofs.laws.the_cache_law_is_kept_among_all.Goals as goal

pub returns : goal.returns
returns c = cache_kept_of
