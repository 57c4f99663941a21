-- When a pool task may begin, and the view that it leaves.
use Rattle.std.specs.Prelude.{◌≡◌, ◌≢◌, ℕ, ◌<◌, length, None, Some, IsSome, All}
use Rattle.nm_base.specs.Geometry.{Geometry, IsGeometry, IsInTier, first_frame, frame_count}
use Rattle.nm_view.specs.declared.view.Fill.TheVariants.{Raw}
use Rattle.nm_view.specs.Lists.{find, erase}
use Rattle.nm_view.specs.Views.{View}
use Rattle.nm_base.specs.FreeWords.{free_words}
use Rattle.nm_base.specs.HomeWord.{home_word}
use Rattle.nm_view.specs.Operations.{owned_frame}
use Rattle.nm_event.specs.After.{owning}
use Rattle.nm_view.specs.Opening.{unscanned}
use Rattle.nm_event.specs.Fitting.{IsNotOwned}
use Rattle.nm_pool.specs.declared.job.PoolJob.{PoolJob}
use Rattle.nm_pool.specs.declared.job.PoolJob.TheVariants.{Take, Level, Back}
use Rattle.nm_pool.specs.declared.job.PoolMade.{PoolMade}
use Rattle.nm_pool.specs.declared.job.PoolEnd.{PoolEnd}
use Rattle.nm_pool.specs.declared.job.PoolEnd.TheVariants as ends
use Rattle.nm_pool.specs.Pool.{tier_for}

-- what a task with this job is made with
abbrev pub pool_made : Geometry → PoolJob → PoolMade
pool_made g job = record { job = job; tier = tier_for g job; base = first_frame g (tier_for g job); words = free_words g (tier_for g job) }

-- the numbers of a job are in range, and a frame that is given back is owned
abbrev pub MayWork : Geometry → View → PoolJob → Type 0
MayWork g view (Take tier floor) = tier < length g.tiers
MayWork g view (Level tier) = tier < length g.tiers
MayWork g view (Back frame) = (frame < frame_count g) × IsSome (find owned_frame frame view.owned)

-- a task may begin: it was made for this geometry, and the view holds no turn
pub record MayBegin (made : PoolMade) (g : Geometry) (view : View) : Type 0 where
  pub geometry : IsGeometry g
  pub is : made ≡ pool_made g made.job
  pub work : MayWork g view made.job
  pub turn : view.turn ≡ None

-- the view holds no turn
abbrev pub released : View → View
released view = record view { turn = None; scan = unscanned }

-- a frame of the tier is given: the view did not own it, and no operation of the view knows it as home
pub record IsGiven (g : Geometry) (tier : ℕ) (view : View) (frame : ℕ) : Type 0 where
  pub there : IsInTier g frame tier
  pub fresh : IsNotOwned view frame
  pub homeless : All (λ o. o.home ≢ Some (home_word frame)) view.ops

-- the view that a task leaves: the turn is released; a frame that was given is owned and raw, one that was put back is
-- owned no more
abbrev pub Leaves : Geometry → PoolJob → View → PoolEnd → View → Type 0
Leaves g job view (ends.Got frame) left = IsGiven g (tier_for g job) view frame × (left ≡ record (released view) { owned = owning frame Raw view.owned })
Leaves g job view (ends.AtFloor n) left = left ≡ released view
Leaves g job view (ends.Level n) left = left ≡ released view
Leaves g (Take _ _) view ends.Back left = ⊥
Leaves g (Level _) view ends.Back left = ⊥
Leaves g (Back frame) view ends.Back left = left ≡ record (released view) { owned = erase owned_frame frame view.owned }
