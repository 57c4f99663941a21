-- When a transfer may begin, and what it leaves.
use Rattle.std.specs.Prelude.{◌≡◌, ◌≢◌, ℕ, ◌+◌, ◌<◌, ◌≤◌, List, [], ◌∷◌, length, All, None, Some, IsSome, IsSomeAnd, false}
use Rattle.nm_base.specs.Geometry.{Geometry, IsGeometry, backing_page}
use Rattle.nm_base.specs.Ranges.{IsPage, IsFrame}
use Rattle.nm_base.specs.HomeWord.{home_word}
use Rattle.nm_base.specs.ShadowWord.{shadow_word}
use Rattle.nm_view.specs.declared.view.Phase.TheVariants.{Held}
use Rattle.nm_view.specs.declared.view.Fill.TheVariants.{Raw, Equal}
use Rattle.nm_view.specs.declared.view.Owned.{Owned}
use Rattle.nm_view.specs.Lists.{find, erase, first, itself}
use Rattle.nm_view.specs.Views.{Op, View, own_bumps, own_raises}
use Rattle.nm_view.specs.Operations.{owned_frame, fill_of, IsLookedOver}
use Rattle.nm_permit.specs.Permitted.{MayUnlock}
use Rattle.nm_event.specs.After.{owning, spoiled}
use Rattle.nm_event.specs.Fitting.{IsNotOwned}
use Rattle.nm_transfer.specs.declared.transfer.Source.{Source}
use Rattle.nm_transfer.specs.declared.transfer.Source.TheVariants as sources
use Rattle.nm_transfer.specs.declared.transfer.TransferMade.{TransferMade}
use Rattle.nm_transfer.specs.Transferring.{transfer_made}

-- the operation on the page: every virtual page was looked at, and those of the transfer are the ones whose word is not 0;
-- its home is known, and nothing was changed in it
pub record IsLooked (g : Geometry) (made : TransferMade) (o : Op) : Type 0 where
  pub page_is : o.page ≡ made.page
  pub home_is : o.home ≡ Some (home_word made.home)
  pub over : IsLookedOver g made.page o.looked
  pub mapped : All (λ v. IsSomeAnd (find first v o.looked) (λ p. p.1 ≢ 0)) made.pages
  pub found : All (λ p. p.1 ≢ 0 → IsSome (find itself p.0 made.pages)) o.looked
  pub taken : o.taken ≡ []
  pub phase : o.phase ≡ Held
  pub uncleared : o.cleared ≡ false
  pub unmoved : o.moved ≡ false
  pub dry : o.wet ≡ []
  pub copied : o.copied ≡ 0
  pub last : o.last ≡ None

-- the new home: a frame that is owned, of whose words nothing is known, and the old home has no shadow; or the shadow of the
-- old home, which is not owned
abbrev pub HasSource : Source → TransferMade → View → Op → Type 0
HasSource sources.Copy made view o = (fill_of view made.frame ≡ Some Raw) × (o.shadow ≡ Some 0)
HasSource sources.Shadow made view o = IsNotOwned view made.frame × (o.shadow ≡ Some (shadow_word made.page (Some made.frame)))

-- it may begin: it was made for this geometry; the operation on the page is the only one of the view; the old home is not
-- owned; and there are a bump and raises enough left
pub record MayTransfer (made : TransferMade) (g : Geometry) (view : View) : Type 0 where
  pub geometry : IsGeometry g
  pub is : made ≡ transfer_made g made.page made.home made.frame made.source made.rights made.pages
  pub page : IsPage g made.page
  pub home : IsFrame g made.home
  pub frame : IsFrame g made.frame
  pub unowned : IsNotOwned view made.home
  pub of : All (λ v. backing_page g v ≡ Some made.page) made.pages
  pub op : Op
  pub ops : view.ops ≡ op ∷ []
  pub looked : IsLooked g made op
  pub source : HasSource made.source made view op
  pub bumps : view.bumps < own_bumps
  pub raises : view.raises + length made.pages ≤ own_raises

-- the frames that are still owned, beside the old home
abbrev pub still_owned : Source → ℕ → List Owned → List Owned
still_owned sources.Copy frame owned = erase owned_frame frame owned
still_owned sources.Shadow frame owned = owned

-- it leaves the operation, which may be closed, with one bump and so many raises more, the new home owned no more, and the
-- old one owned in its place; nothing else of the view has changed
pub record IsTransferred (made : TransferMade) (g : Geometry) (view : View) (taken : List (ℕ × ℕ)) (left : View) : Type 0 where
  pub op : Op
  pub page_is : op.page ≡ made.page
  pub unlock : MayUnlock g op
  pub is : left ≡ record view {
    ops = op ∷ [];
    owned = spoiled made.page (owning made.home (Equal made.page) (still_owned made.source made.frame view.owned));
    bumps = view.bumps + 1;
    raises = view.raises + length made.pages;
  }
