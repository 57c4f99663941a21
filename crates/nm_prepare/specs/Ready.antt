-- When the steps up to the first flush may begin, and what they leave.
use Rattle.std.specs.Prelude.{◌≡◌, ◌≢◌, ℕ, ◌+◌, ◌<◌, length, Some, None, IsSomeAnd, true, false, [], ◌∷◌, ◌++◌, All}
use Rattle.nm_base.specs.Geometry.{Geometry, IsGeometry, tier_of, backing_page}
use Rattle.nm_base.specs.Ranges.{IsPage, IsFrame}
use Rattle.nm_base.specs.HomeWord.{home_word}
use Rattle.nm_action.specs.declared.spent.Spent.{Spent}
use Rattle.nm_view.specs.declared.view.Phase.TheVariants.{Cleared}
use Rattle.nm_view.specs.declared.view.Fill.TheVariants.{Raw}
use Rattle.nm_view.specs.declared.view.Scanned.{Scanned}
use Rattle.nm_view.specs.Lists.{find, first}
use Rattle.nm_view.specs.Views.{Op, View, most_ops}
use Rattle.nm_view.specs.Operations.{op_on}
use Rattle.nm_permit.specs.Permitted.{IsFreeOfShadow}
use Rattle.nm_event.specs.After.{owning, spoiled}
use Rattle.nm_event.specs.Fitting.{IsNotOwned}
use Rattle.nm_prepare.specs.Worn.{is_worn}
use Rattle.nm_prepare.specs.declared.prepare.PrepareMade.{PrepareMade}
use Rattle.nm_prepare.specs.declared.prepare.Prepared.{Prepared}
use Rattle.nm_prepare.specs.declared.prepare.Prepared.TheVariants.{Busy, Closed, Ready}

-- what a view has drawn
abbrev pub spent_by : View → Spent
spent_by view = record { bumps = view.bumps; raises = view.raises }

-- they may begin: the page is there and not open in the view, which has room for one operation more and holds no turn, and
-- what was drawn is told
pub record MayPrepare (mine : Geometry) (made : PrepareMade) (g : Geometry) (view : View) : Type 0 where
  pub same : mine ≡ g
  pub geometry : IsGeometry g
  pub page : IsPage g made.page
  pub fresh : op_on view made.page ≡ None
  pub few : length view.ops < most_ops
  pub turn : view.turn ≡ None
  pub spent : made.spent ≡ spent_by view

-- an operation of a transaction before its first flush: v was looked at as not 0, its dirty bit is cleared, it was raised,
-- and no word is taken or copied yet
pub record IsReadyOp (g : Geometry) (page v home : ℕ) (o : Op) : Type 0 where
  pub page_is : o.page ≡ page
  pub home_is : o.home ≡ Some (home_word home)
  pub shadow : IsFreeOfShadow g o
  pub looked : IsSomeAnd (find first v o.looked) (λ p. p.1 ≢ 0)
  pub taken : o.taken ≡ []
  pub phase : o.phase ≡ Cleared
  pub cleared : o.cleared ≡ true
  pub moved : o.moved ≡ false
  pub due : o.due ≡ true
  pub dry : o.wet ≡ []
  pub copied : o.copied ≡ 0
  pub last : o.last ≡ None

-- the frame that was taken: in a faster tier than the home, not owned before, and the home of no operation of the view
pub record IsNewFrame (g : Geometry) (home frame : ℕ) (view : View) : Type 0 where
  pub range : IsFrame g frame
  pub faster : tier_of g frame < tier_of g home
  pub fresh : IsNotOwned view frame
  pub homeless : All (λ o. o.home ≢ Some (home_word frame)) view.ops

-- the page is ready for the first flush: its operation stands at the end, the new frame is owned, and one raise was made
pub record HasReady (made : PrepareMade) (g : Geometry) (view : View) (home frame : ℕ) (left : View) : Type 0 where
  pub op : Op
  pub ready : IsReadyOp g made.page made.vpage home op
  pub worn : is_worn made.spent ≡ false
  pub backing : backing_page g made.vpage ≡ Some made.page
  pub range : IsFrame g home
  pub unowned : IsNotOwned view home
  pub new : IsNewFrame g home frame view
  pub scan : Scanned
  pub is : left ≡ record view { ops = view.ops ++ op ∷ []; owned = owning frame Raw view.owned; scan = scan; raises = view.raises + 1 }

-- the work ended early, and the page is unlocked again
pub record HasClosed (page : ℕ) (view left : View) : Type 0 where
  pub scan : Scanned
  pub is : left ≡ record view { owned = spoiled page view.owned; scan = scan }

-- what they leave
abbrev pub IsPrepared : PrepareMade → Geometry → View → Prepared → View → Type 0
IsPrepared made g view Busy left = left ≡ view
IsPrepared made g view (Closed early) left = HasClosed made.page view left
IsPrepared made g view (Ready home frame) left = HasReady made g view home frame left
