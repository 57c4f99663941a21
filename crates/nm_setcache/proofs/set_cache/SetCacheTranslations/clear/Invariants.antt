use Rattle.std.proofs.Common.{◌≡◌, ◌++◌, map, take, drop}
use Rattle.nm_setcache.proofs.Loops.{cleared}
use Rattle.nm_setcache.proofs.set_cache.SetCacheTranslations.clear.Given as goal

abbrev pub invariant-loop-set : goal.invariant-loop-set
invariant-loop-set l = l.set-items ≡ map cleared (take l.set-index l.initial.set-items) ++ drop l.set-index l.initial.set-items
