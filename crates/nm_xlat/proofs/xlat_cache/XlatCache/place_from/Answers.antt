use Rattle.nm_xlat.proofs.Placed.{from_at, from_gap}
use Rattle.nm_xlat.proofs.xlat_cache.XlatCache.place_from.Goals as goal

pub returns-in-Ok : goal.returns-in-Ok
returns-in-Ok c = from_at _ _ _ c.in-Ok.ensures.found

pub returns-in-Err : goal.returns-in-Err
returns-in-Err c = from_gap _ _ _ c.in-Err.ensures.absent
