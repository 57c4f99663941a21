-- When the search for a frame may begin, and what it leaves.
use Rattle.std.specs.Prelude.{◌≡◌, ℕ, List, None, Some}
use Rattle.nm_base.specs.Geometry.{Geometry}
use Rattle.nm_view.specs.declared.view.Fill.TheVariants.{Raw}
use Rattle.nm_view.specs.declared.view.Owned.{Owned}
use Rattle.nm_view.specs.declared.view.Scanned.{Scanned}
use Rattle.nm_view.specs.Lists.{find}
use Rattle.nm_view.specs.Operations.{owned_frame}
use Rattle.nm_view.specs.Views.{View}
use Rattle.nm_event.specs.After.{owning}
use Rattle.nm_pool.specs.Given.{IsGiven}
use Rattle.nm_reclaim.specs.Swept.{MayReclaim, IsForgotten, IsSwept}
use Rattle.nm_obtain.specs.declared.obtain.ObtainMade.{ObtainMade}
use Rattle.nm_obtain.specs.declared.obtain.Obtained.{Obtained}
use Rattle.nm_obtain.specs.declared.obtain.Obtained.TheVariants.{Got, AtFloor}
use Rattle.nm_obtain.specs.Obtains.{reclaim_for}

-- it may begin: it was made for this geometry, the tier exists, the view holds no turn, and has no operation but on the page
pub record MayObtain (mine : Geometry) (made : ObtainMade) (g : Geometry) (view : View) : Type 0 where
  pub same : mine ≡ g
  pub may : MayReclaim (reclaim_for made) g view

-- a frame of the tier is owned, which was not, and which no operation knows as home; of the other frames less may be known,
-- but not less by the page; and all else of the view but the scan is as it was
pub record HasObtained (made : ObtainMade) (g : Geometry) (view : View) (frame : ℕ) (left : View) : Type 0 where
  pub given : IsGiven g made.tier view frame
  pub before : List Owned
  pub forgotten : IsForgotten (Some made.page) view.owned before
  pub fresh : find owned_frame frame before ≡ None
  pub scan : Scanned
  pub is : left ≡ record view { owned = owning frame Raw before; scan = scan }

abbrev pub IsObtained : ObtainMade → Geometry → View → Obtained → View → Type 0
IsObtained made g view (Got frame) left = HasObtained made g view frame left
IsObtained made g view (AtFloor n) left = IsSwept (Some made.page) view left
