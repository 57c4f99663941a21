use Rattle.std.proofs.Common.{sym, arith}
use Rattle.nm_xlat.proofs.Placed.{at_within, entry_at-at, entry_at-gap}
use Rattle.nm_xlat.proofs.xlat_cache.XlatCache.find.Goals as goal

pub index-requires : goal.index-requires
index-requires c =
    let found = rw (← c.self.view_is) at c.in-Ok.ensures.found in
    omega (arith, at_within _ _ _ found)

pub returns-in-Ok : goal.returns-in-Ok
returns-in-Ok c =
    let found = rw (← c.self.view_is) at c.in-Ok.ensures.found in
    rw (← c.self.view_is) (grind (arith, entry_at-at _ _ _ c.index.result.now found))

pub returns-in-Err : goal.returns-in-Err
returns-in-Err c =
    let gap = rw (← c.self.view_is) at c.in-Err.ensures.absent in
    rw (← c.self.view_is) (sym (entry_at-gap _ _ _ c.self.invariant.0 gap))
