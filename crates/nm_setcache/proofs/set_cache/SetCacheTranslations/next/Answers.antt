use Rattle.nm_setcache.proofs.Loops.{next_more}
use Rattle.nm_setcache.proofs.set_cache.SetCacheTranslations.next.Goals as goal

-- this set's least page and the least so far
pub loop-set-preserved : goal.loop-set-preserved
loop-set-preserved c =
    rw c.lesser-least.ensures (next_more c.deref-set-items.result.now c.loop-set.set-index c.args.from c.set-item.result c.loop-set.least c.next.result c.loop-set-test.true c.set-item.is c.loop-set.invariant c.next.ensures)
