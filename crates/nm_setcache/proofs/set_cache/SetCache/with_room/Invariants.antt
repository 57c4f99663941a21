use Rattle.std.proofs.Common.{◌≡◌, ◌≤◌, replicate, vec_capacity}
use Rattle.nm_setcache.proofs.Loops.{empty_set}
use Rattle.nm_setcache.proofs.set_cache.SetCache.with_room.Given as goal

abbrev pub invariant-loop-set : goal.invariant-loop-set
invariant-loop-set l = record { made : l.all.items ≡ replicate l._set (empty_set l.ways); room : l.sets ≤ vec_capacity l.all }
