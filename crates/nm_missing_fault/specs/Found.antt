-- When a search for a frame may begin, and the view that it leaves.
use Rattle.std.specs.Prelude.{◌≡◌, ℕ, List, [], ◌∷◌, ◌++◌, None, Some}
use Rattle.nm_base.specs.Geometry.{Geometry, IsGeometry}
use Rattle.nm_base.specs.Ranges.{IsFrame}
use Rattle.nm_view.specs.declared.view.Fill.TheVariants.{Raw}
use Rattle.nm_view.specs.declared.view.Owned.{Owned}
use Rattle.nm_view.specs.Lists.{find}
use Rattle.nm_view.specs.Operations.{owned_frame}
use Rattle.nm_view.specs.Views.{View}
use Rattle.nm_reclaim.specs.Swept.{HasOnlySkipped, IsForgotten}
use Rattle.nm_missing_fault.specs.declared.search.SearchMade.{SearchMade}

-- it was made for this geometry, and the view holds no turn and has no operation but on the page
pub record MaySearch (mine : Geometry) (made : SearchMade) (g : Geometry) (view : View) : Type 0 where
  pub same : mine ≡ g
  pub geometry : IsGeometry g
  pub ops : HasOnlySkipped (Some made.page) view.ops
  pub turn : view.turn ≡ None

-- the frame is owned beside the frames that were owned, and nothing is known of its words; all else but the scan, and what
-- is known of the words of other frames by other pages, is as it was
pub record IsFound (made : SearchMade) (g : Geometry) (view : View) (frame : ℕ) (left : View) : Type 0 where
  pub before : List Owned
  pub owned : IsForgotten (Some made.page) view.owned before
  pub exists : IsFrame g frame
  pub fresh : find owned_frame frame before ≡ None
  pub is : left ≡ record view { owned = before ++ record { frame = frame; fill = Raw } ∷ []; scan = left.scan }
