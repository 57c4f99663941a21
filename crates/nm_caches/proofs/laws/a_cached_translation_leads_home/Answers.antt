-- The entry is sound.
use Rattle.nm_caches.proofs.Given.{entry_home}
use Rattle.nm_caches.proofs.laws.a_cached_translation_leads_home.Goals as goal

pub returns : goal.returns
returns c = entry_home
