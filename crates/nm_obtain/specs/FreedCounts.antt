-- What a count of the shadows that were reclaimed inside an operation tells of an own list.
use Rattle.std.specs.Prelude.{◌≡◌, ℕ, ◌+◌, ◌-◌, ◌^◌, ◌&&◌, not, min, if◌then◌else◌, Bool, true, false, [], ◌∷◌}
use Rattle.nm_action.specs.declared.action.Action.{Action}
use Rattle.nm_action.specs.Own.{Own}
use Rattle.nm_obtain.specs.declared.freed.FreedCount.{FreedCount}
use Rattle.nm_obtain.specs.Freed.{unlocks, puts_frame, is_release, freed_inside}

-- the page is not unlocked
abbrev pub stays_locked : ℕ → Own → Bool
stays_locked page [] = true
stays_locked page (event ∷ own) = not (unlocks page event.0) && stays_locked page own

-- the last action put a frame back
abbrev pub ends_put : Own → Bool
ends_put [] = false
ends_put (event ∷ []) = puts_frame event.0
ends_put (event ∷ (next ∷ own)) = ends_put (next ∷ own)

-- the count with one action more; one that has reached 2^64 - 1 stays there
abbrev pub freed_with : FreedCount → Action → ℕ
freed_with c action = if (c.locked && c.putting) && is_release action then min (c.freed + 1) (2 ^ 64 - 1) else c.freed

-- the actions of this list were noted, and no others
pub record HasCounted (c : FreedCount) (own : Own) : Type 0 where
  pub locked : c.locked ≡ stays_locked c.page own
  pub putting : c.putting ≡ ends_put own
  pub freed : c.freed ≡ min (freed_inside c.page own) (2 ^ 64 - 1)
