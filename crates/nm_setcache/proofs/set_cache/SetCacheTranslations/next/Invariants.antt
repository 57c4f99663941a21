use Rattle.std.proofs.Common.{take}
use Rattle.nm_xlat.specs.Entries.{entry_at}
use Rattle.nm_setcache.specs.Sets.{entries_of_sets}
use Rattle.nm_setcache.proofs.Loops.{IsNext}
use Rattle.nm_setcache.proofs.set_cache.SetCacheTranslations.next.Given as goal

abbrev pub invariant-loop-set : goal.invariant-loop-set
invariant-loop-set l = IsNext (λ w. entry_at w (entries_of_sets (take l.set-index l.set-items))) l.from l.least
