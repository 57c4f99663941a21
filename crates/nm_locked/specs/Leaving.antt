-- What a locked move leaves.
use Rattle.std.specs.Prelude.{◌≡◌, ℕ, ◌+◌}
use Rattle.nm_view.specs.declared.view.Scanned.{Scanned}
use Rattle.nm_view.specs.Views.{View}
use Rattle.nm_event.specs.After.{spoiled}
use Rattle.nm_locked.specs.declared.choose.ChooseMade.{ChooseMade}
use Rattle.nm_locked.specs.declared.locked.LockedEnd.{LockedEnd}
use Rattle.nm_locked.specs.declared.locked.LockedEnd.TheVariants.{Moved, NoFrame, Gone, Worn, Busy}
use Rattle.nm_locked.specs.Chosen.{HasClosedInMove}

-- the page is moved and unlocked: one bump more, and a raise of each of its virtual pages; no operation and no frame of the
-- move is left
pub record HasMoved (made : ChooseMade) (view left : View) : Type 0 where
  pub scan : Scanned
  pub is : left ≡ record view { owned = spoiled made.page view.owned; scan = scan; bumps = view.bumps + 1; raises = view.raises + made.count }

abbrev pub IsLockedLeft : ChooseMade → View → LockedEnd → View → Type 0
IsLockedLeft made view Moved left = HasMoved made view left
IsLockedLeft made view (NoFrame n) left = HasClosedInMove made.page view left
IsLockedLeft made view Gone left = HasClosedInMove made.page view left
IsLockedLeft made view Worn left = HasClosedInMove made.page view left
IsLockedLeft made view Busy left = left ≡ view
