-- When a demotion may begin, and what its steps before the page is taken out of the table leave.
use Rattle.std.specs.Prelude.{◌≡◌, ◌≢◌, ℕ, ◌+◌, ◌<◌, ◌≤◌, List, [], length, All, Some, None, IsSome, IsSomeAnd, false}
use Rattle.nm_base.specs.Geometry.{Geometry, IsGeometry, tier_of, backing_page}
use Rattle.nm_base.specs.Ranges.{IsPage, IsFrame}
use Rattle.nm_base.specs.HomeWord.{home_word}
use Rattle.nm_base.specs.ShadowWord.{shadow_word}
use Rattle.nm_view.specs.declared.view.Fill.TheVariants.{Raw}
use Rattle.nm_view.specs.declared.view.Owned.{Owned}
use Rattle.nm_view.specs.declared.view.Scanned.{Scanned}
use Rattle.nm_view.specs.Lists.{find, first, itself}
use Rattle.nm_view.specs.Views.{View}
use Rattle.nm_view.specs.Operations.{owned_frame, IsLookedOver}
use Rattle.nm_event.specs.After.{owning, spoiled}
use Rattle.nm_event.specs.Fitting.{IsNotOwned}
use Rattle.nm_vpages.specs.VPages.{most_vpages}
use Rattle.nm_prepare.specs.Worn.{is_worn}
use Rattle.nm_reclaim.specs.Swept.{IsForgotten}
use Rattle.nm_locked.specs.Chosen.{drawn_by, opened_view, move_looked_op}
use Rattle.nm_transfer.specs.declared.transfer.Source.{Source}
use Rattle.nm_transfer.specs.declared.transfer.Source.TheVariants as sources
use Rattle.nm_demote.specs.declared.select.DemoteMade.{DemoteMade}
use Rattle.nm_demote.specs.declared.select.Selected.{Selected}
use Rattle.nm_demote.specs.declared.select.Selected.TheVariants.{Busy, Closed, Ready}

-- it may begin: the page is there, the view has no open operation and holds no turn, and what it has drawn is told
pub record MayDemote (mine : Geometry) (made : DemoteMade) (g : Geometry) (view : View) : Type 0 where
  pub same : mine ≡ g
  pub geometry : IsGeometry g
  pub page : IsPage g made.page
  pub none : view.ops ≡ []
  pub turn : view.turn ≡ None
  pub spent : made.spent ≡ drawn_by view

-- the home was read: it is there, in a tier other than the last, and not owned; and numbers enough are left
pub record IsFastHome (made : DemoteMade) (g : Geometry) (view : View) (home : ℕ) : Type 0 where
  pub may : MayDemote g made g view
  pub left : is_worn made.spent ≡ false
  pub range : IsFrame g home
  pub fast : tier_of g home + 1 < length g.tiers
  pub unowned : IsNotOwned view home

-- every virtual page of the page was looked at, and these have words, one at least
pub record HasSeenToDemote (made : DemoteMade) (g : Geometry) (pages : List ℕ) (looked : List (ℕ × ℕ)) : Type 0 where
  pub of : All (λ v. backing_page g v ≡ Some made.page) pages
  pub over : IsLookedOver g made.page looked
  pub mapped : All (λ v. IsSomeAnd (find first v looked) (λ p. p.1 ≢ 0)) pages
  pub found : All (λ p. p.1 ≢ 0 → IsSome (find itself p.0 pages)) looked
  pub few : length pages ≤ most_vpages

-- the shadow word beside a new home: none where a frame was taken; else it names that frame
abbrev pub IsShadowBeside : Source → ℕ → ℕ → ℕ → Type 0
IsShadowBeside sources.Copy page frame shadow = shadow ≡ 0
IsShadowBeside sources.Shadow page frame shadow = shadow ≡ shadow_word page (Some frame)

-- the frames that are owned: with the one that was taken, but not with a shadow
abbrev pub with_target : Source → ℕ → List Owned → List Owned
with_target sources.Copy frame owned = owning frame Raw owned
with_target sources.Shadow frame owned = owned

-- the new home is there, in a slower tier than the home, and was not owned
pub record IsNewHome (made : DemoteMade) (g : Geometry) (home frame shadow : ℕ) (source : Source) (owned : List Owned) : Type 0 where
  pub range : IsFrame g frame
  pub slower : tier_of g home < tier_of g frame
  pub fresh : find owned_frame frame owned ≡ None
  pub beside : IsShadowBeside source made.page frame shadow

-- the page is ready: its operation is the only one; of the frames that were owned less may be known
pub record IsReadyToDemote (made : DemoteMade) (g : Geometry) (view : View) (home frame : ℕ) (source : Source) (pages : List ℕ) (left : View) : Type 0 where
  pub fast : IsFastHome made g view home
  pub looked : List (ℕ × ℕ)
  pub seen : HasSeenToDemote made g pages looked
  pub some : pages ≢ []
  pub before : List Owned
  pub forgotten : IsForgotten (Some made.page) view.owned before
  pub shadow : ℕ
  pub new : IsNewHome made g home frame shadow source before
  pub scan : Scanned
  pub is : left ≡ opened_view (move_looked_op made.page view.room.aliases (Some (home_word home)) (Some shadow) looked) (with_target source frame before) scan view

-- the work ended early, and the page is unlocked again
pub record HasClosedToDemote (page : ℕ) (view left : View) : Type 0 where
  pub before : List Owned
  pub forgotten : IsForgotten (Some page) view.owned before
  pub scan : Scanned
  pub is : left ≡ record view { owned = spoiled page before; scan = scan }

-- what they leave
abbrev pub IsSelected : DemoteMade → Geometry → View → Selected → View → Type 0
IsSelected made g view Busy left = left ≡ view
IsSelected made g view (Closed early) left = HasClosedToDemote made.page view left
IsSelected made g view (Ready home frame source pages) left = IsReadyToDemote made g view home frame source pages left
