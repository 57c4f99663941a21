-- A frame of a tier is sought inside an operation on a page: a pattern over finished lists, the last step first.
use Rattle.std.specs.Prelude.{Some}
use Rattle.nm_base.specs.Geometry.{Geometry}
use Rattle.nm_action.specs.Own.{Own}
use Rattle.nm_part.specs.Patterns.{Ends, Follows}
use Rattle.nm_pool.specs.Pool.{IsPool}
use Rattle.nm_pool.specs.declared.job.PoolJob.TheVariants.{Take}
use Rattle.nm_pool.specs.declared.job.PoolEnd.{PoolEnd}
use Rattle.nm_pool.specs.declared.job.PoolEnd.TheVariants as pools
use Rattle.nm_reclaim.specs.Reclaims.{IsReclaim}
use Rattle.nm_reclaim.specs.declared.sweep.ReclaimMade.{ReclaimMade}
use Rattle.nm_obtain.specs.declared.obtain.ObtainMade.{ObtainMade}
use Rattle.nm_obtain.specs.declared.obtain.Obtained.{Obtained}
use Rattle.nm_obtain.specs.declared.obtain.Obtained.TheVariants.{Got, AtFloor}

-- no list has this pattern
abbrev pub NeverObtains : Own → Obtained → Type 0
NeverObtains own outcome = ⊥

-- 3. The least free frame is taken; where none is free, the search ends.
abbrev pub AfterSecondTry : PoolEnd → Own → Obtained → Type 0
AfterSecondTry (pools.Got frame) = Ends (Got frame)
AfterSecondTry (pools.AtFloor n) = Ends (AtFloor n)
AfterSecondTry (pools.Level n) = NeverObtains
AfterSecondTry pools.Back = NeverObtains

abbrev pub TriesAgain : Geometry → ObtainMade → Own → Obtained → Type 0
TriesAgain g made = Follows (IsPool g (Take made.tier 0)) AfterSecondTry

-- 2. Shadows in the tier are reclaimed, of every page but that of the operation.
abbrev pub reclaim_for : ObtainMade → ReclaimMade
reclaim_for made = record { tier = made.tier; want = 1; skip = Some made.page }

abbrev pub ReclaimsTier : Geometry → ObtainMade → Own → Obtained → Type 0
ReclaimsTier g made = Follows (IsReclaim g (reclaim_for made)) (λ freed. TriesAgain g made)

-- 1. The least free frame is taken; where none is free, the search goes on.
abbrev pub AfterFirstTry : Geometry → ObtainMade → PoolEnd → Own → Obtained → Type 0
AfterFirstTry g made (pools.Got frame) = Ends (Got frame)
AfterFirstTry g made (pools.AtFloor n) = ReclaimsTier g made
AfterFirstTry g made (pools.Level n) = NeverObtains
AfterFirstTry g made pools.Back = NeverObtains

abbrev pub IsObtain : ObtainMade → Geometry → Own → Obtained → Type 0
IsObtain made g = Follows (IsPool g (Take made.tier 0)) (AfterFirstTry g made)
