-- A page is inspected by the demotion of a tier, as a pattern over finished lists, the last step first; and when that may begin.
-- It leaves the view as it was.
use Rattle.std.specs.Prelude.{◌≡◌, None}
use Rattle.nm_base.specs.Geometry.{Geometry}
use Rattle.nm_action.specs.Own.{Own}
use Rattle.nm_view.specs.Operations.{op_on}
use Rattle.nm_view.specs.Views.{View}
use Rattle.nm_part.specs.Patterns.{Ends, Follows, Either}
use Rattle.nm_looks.specs.declared.seen.Seen.{Seen}
use Rattle.nm_looks.specs.Seeing.{IsLooks}
use Rattle.nm_looks.specs.Softening.{IsSoftens}
use Rattle.nm_looks.specs.Parts.{page_looks}
use Rattle.nm_inspect.specs.declared.inspect.InspectMade.{InspectMade}
use Rattle.nm_inspect.specs.declared.inspect.Inspected.{Inspected}
use Rattle.nm_inspect.specs.declared.inspect.Inspected.TheVariants.{Elsewhere, InUse, Idle}

abbrev pub InspectData : Type 0
InspectData = Geometry × InspectMade

-- 3. Where some word was accessed, the accessed bit is taken from each word that is not 0.
abbrev pub SoftensInUse : Geometry → Seen → Own → Inspected → Type 0
SoftensInUse g seen = Follows (IsSoftens seen.mapped g) (λ softened. Ends InUse)

-- 2. Where no word is in the tier, this is the end; where none was accessed, the page is to be demoted.
abbrev pub AfterInspectLooks : Geometry → Seen → Own → Inspected → Type 0
AfterInspectLooks g seen = Either seen.inside (Either seen.accessed (SoftensInUse g seen) (Ends Idle)) (Ends Elsewhere)

-- 1. Each virtual page of the page is looked at.
abbrev pub IsInspection : InspectData → Geometry → Own → Inspected → Type 0
IsInspection made g = Follows (IsLooks (page_looks made.0 made.1.page made.1.tier) g) (AfterInspectLooks g)

-- it may begin: the geometry is its own, and the view has no operation on the page
pub record MayInspect (made : InspectData) (g : Geometry) (view : View) : Type 0 where
  pub same : made.0 ≡ g
  pub alone : op_on view made.1.page ≡ None
