-- When the steps before the page is taken out of the table may begin, and what they leave.
use Rattle.std.specs.Prelude.{◌≡◌, ◌≢◌, ℕ, ◌+◌, ◌≤◌, List, [], ◌∷◌, length, All, Option, Some, None, IsSome, IsSomeAnd, false}
use Rattle.nm_base.specs.Geometry.{Geometry, IsGeometry, tier_of, backing_page}
use Rattle.nm_base.specs.Ranges.{IsPage, IsFrame}
use Rattle.nm_base.specs.HomeWord.{home_word}
use Rattle.nm_action.specs.declared.spent.Spent.{Spent}
use Rattle.nm_view.specs.declared.view.Fill.TheVariants.{Raw}
use Rattle.nm_view.specs.declared.view.Owned.{Owned}
use Rattle.nm_view.specs.declared.view.Scanned.{Scanned}
use Rattle.nm_view.specs.Lists.{find, first, itself}
use Rattle.nm_view.specs.Views.{Op, View}
use Rattle.nm_view.specs.Opening.{opened}
use Rattle.nm_view.specs.Operations.{IsLookedOver}
use Rattle.nm_event.specs.After.{owning, spoiled}
use Rattle.nm_event.specs.Fitting.{IsNotOwned}
use Rattle.nm_vpages.specs.VPages.{most_vpages}
use Rattle.nm_prepare.specs.Worn.{is_worn}
use Rattle.nm_locked.specs.declared.choose.ChooseMade.{ChooseMade}
use Rattle.nm_locked.specs.declared.choose.Chosen.{Chosen}
use Rattle.nm_locked.specs.declared.choose.Chosen.TheVariants.{Busy, Closed, Ready}

-- what a view has drawn
abbrev pub drawn_by : View → Spent
drawn_by view = record { bumps = view.bumps; raises = view.raises }

-- they may begin: the page is there, the view has no open operation and holds no turn, and what it has drawn is told
pub record MayChoose (mine : Geometry) (made : ChooseMade) (g : Geometry) (view : View) : Type 0 where
  pub same : mine ≡ g
  pub geometry : IsGeometry g
  pub page : IsPage g made.page
  pub none : view.ops ≡ []
  pub turn : view.turn ≡ None
  pub spent : made.spent ≡ drawn_by view
  pub count : 1 ≤ made.count

-- the view with this one operation, these frames owned, and this scan
abbrev pub opened_view : Op → List Owned → Scanned → View → View
opened_view op owned scan view = record view { ops = op ∷ []; owned = owned; scan = scan }

-- an operation of which nothing was changed: what it knows of its home and shadow word, and what it has looked at
abbrev pub move_looked_op : ℕ → ℕ → Option ℕ → Option ℕ → List (ℕ × ℕ) → Op
move_looked_op page room home shadow looked = record (opened page room) { home = home; shadow = shadow; looked = looked }

-- the home was read: it is there, in a tier other than 0, and not owned; and numbers enough are left
pub record IsSlowHomeInMove (made : ChooseMade) (g : Geometry) (view : View) (home : ℕ) : Type 0 where
  pub may : MayChoose g made g view
  pub left : is_worn made.spent ≡ false
  pub range : IsFrame g home
  pub slow : tier_of g home ≢ 0
  pub unowned : IsNotOwned view home

-- every virtual page of the page was looked at, and these have words, as many as are wanted
pub record HasSeenInMove (made : ChooseMade) (g : Geometry) (pages : List ℕ) (looked : List (ℕ × ℕ)) : Type 0 where
  pub of : All (λ v. backing_page g v ≡ Some made.page) pages
  pub over : IsLookedOver g made.page looked
  pub mapped : All (λ v. IsSomeAnd (find first v looked) (λ p. p.1 ≢ 0)) pages
  pub found : All (λ p. p.1 ≢ 0 → IsSome (find itself p.0 pages)) looked
  pub count : length pages ≡ made.count
  pub few : length pages ≤ most_vpages

-- a frame was taken: the view did not own it, and it is not the home
pub record IsNewFrameInMove (g : Geometry) (view : View) (home frame : ℕ) : Type 0 where
  pub range : IsFrame g frame
  pub fresh : IsNotOwned view frame
  pub other : frame ≢ home

-- the page is ready: its operation is the only one, with no shadow, and the new frame is owned
pub record HasReadyInMove (made : ChooseMade) (g : Geometry) (view : View) (home frame : ℕ) (pages : List ℕ) (left : View) : Type 0 where
  pub slow : IsSlowHomeInMove made g view home
  pub new : IsNewFrameInMove g view home frame
  pub looked : List (ℕ × ℕ)
  pub seen : HasSeenInMove made g pages looked
  pub scan : Scanned
  pub is : left ≡ opened_view (move_looked_op made.page view.room.aliases (Some (home_word home)) (Some 0) looked) (owning frame Raw view.owned) scan view

-- the work ended early, and the page is unlocked again
pub record HasClosedInMove (page : ℕ) (view left : View) : Type 0 where
  pub scan : Scanned
  pub is : left ≡ record view { owned = spoiled page view.owned; scan = scan }

-- what they leave
abbrev pub IsChosen : ChooseMade → Geometry → View → Chosen → View → Type 0
IsChosen made g view Busy left = left ≡ view
IsChosen made g view (Closed early) left = HasClosedInMove made.page view left
IsChosen made g view (Ready home frame pages) left = HasReadyInMove made g view home frame pages left
