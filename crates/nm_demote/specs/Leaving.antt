-- What a demotion leaves.
use Rattle.std.specs.Prelude.{◌≡◌, ℕ, ◌+◌, ◌≤◌, List, Some}
use Rattle.nm_view.specs.declared.view.Owned.{Owned}
use Rattle.nm_view.specs.declared.view.Scanned.{Scanned}
use Rattle.nm_view.specs.Views.{View}
use Rattle.nm_event.specs.After.{spoiled}
use Rattle.nm_reclaim.specs.Swept.{IsForgotten}
use Rattle.nm_vpages.specs.VPages.{most_vpages}
use Rattle.nm_demote.specs.declared.select.DemoteMade.{DemoteMade}
use Rattle.nm_demote.specs.declared.demote.DemoteEnd.{DemoteEnd}
use Rattle.nm_demote.specs.declared.demote.DemoteEnd.TheVariants.{Remapped, Copied, NoFrame, Gone, Worn, Busy}
use Rattle.nm_demote.specs.Selections.{HasClosedToDemote}

-- the page is moved and unlocked: one bump more, and a raise of each of its virtual pages that had a word; no operation and no
-- frame of the demotion is left
pub record HasDemoted (made : DemoteMade) (view left : View) : Type 0 where
  pub before : List Owned
  pub forgotten : IsForgotten (Some made.page) view.owned before
  pub scan : Scanned
  pub raised : ℕ
  pub some : 1 ≤ raised
  pub few : raised ≤ most_vpages
  pub is : left ≡ record view { owned = spoiled made.page before; scan = scan; bumps = view.bumps + 1; raises = view.raises + raised }

abbrev pub IsDemoteLeft : DemoteMade → View → DemoteEnd → View → Type 0
IsDemoteLeft made view Remapped left = HasDemoted made view left
IsDemoteLeft made view Copied left = HasDemoted made view left
IsDemoteLeft made view (NoFrame n) left = HasClosedToDemote made.page view left
IsDemoteLeft made view Gone left = HasClosedToDemote made.page view left
IsDemoteLeft made view Worn left = HasClosedToDemote made.page view left
IsDemoteLeft made view Busy left = left ≡ view
