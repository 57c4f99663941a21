use Rattle.std.proofs.Common.{◌≡◌, arith}
use Rattle.nm_setcache.proofs.Loops.{view-replicate}
use Rattle.nm_setcache.proofs.set_cache.SetCache.with_room.Goals as goal

pub returns : goal.returns
returns c =
    let all : c.loop-set._set ≡ c.args.sets = omega arith in
    rw (c.loop-set.invariant.made, all) (view-replicate c.args.sets c.args.ways c.requires.sets_in_range.0)
