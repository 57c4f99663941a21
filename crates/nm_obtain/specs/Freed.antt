-- The shadows that are reclaimed inside an operation on a page: each frame that is put back before the page is unlocked.
use Rattle.std.specs.Prelude.{ℕ, ◌+◌, ◌==◌, ◌&&◌, Bool, true, false, if◌then◌else◌, [], ◌∷◌}
use Rattle.nm_action.specs.declared.action.Action.{Action}
use Rattle.nm_action.specs.declared.action.Action.TheVariants.{Unlock, PutFrame, ReleaseTurn}
use Rattle.nm_action.specs.Own.{Own}

abbrev pub unlocks : ℕ → Action → Bool
unlocks page (Unlock b) = b == page
unlocks page _ = false

abbrev pub puts_frame : Action → Bool
puts_frame (PutFrame frame) = true
puts_frame _ = false

abbrev pub is_release : Action → Bool
is_release (ReleaseTurn tier) = true
is_release _ = false

-- the part of an own list before the page is unlocked
abbrev pub before_unlock : ℕ → Own → Own
before_unlock page [] = []
before_unlock page (event ∷ own) = if unlocks page event.0 then [] else event ∷ before_unlock page own

-- how many frames were put back: a turn is released directly after a frame was put back
abbrev pub frames_back : Own → ℕ
frames_back [] = 0
frames_back (event ∷ []) = 0
frames_back (event ∷ (next ∷ own)) = (if puts_frame event.0 && is_release next.0 then 1 else 0) + frames_back (next ∷ own)

abbrev pub freed_inside : ℕ → Own → ℕ
freed_inside page own = frames_back (before_unlock page own)
