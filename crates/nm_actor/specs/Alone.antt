-- A lane that is first in, first out, and that one actor alone uses.
use Rattle.std.specs.Prelude.{◌≡◌, ℕ, List, [], ◌∷◌, ◌++◌}
use Rattle.nm_action.specs.declared.turn.Lane.{Lane}
use Rattle.nm_actor.specs.Lanes.{LaneMove, put, took}
use Rattle.nm_actor.specs.Turns.{Turns, lane_list}

-- before these moves the lane holds the first pages, and after them the last: a page that is put comes behind all others, and the
-- page that is taken is the first
abbrev pub MovesLeave : List ℕ → List LaneMove → List ℕ → Type 0
MovesLeave pages [] left = left ≡ pages
MovesLeave pages (put page ∷ moves) left = MovesLeave (pages ++ page ∷ []) moves left
MovesLeave pages (took page ∷ moves) left = (later : List ℕ) × (pages ≡ page ∷ later) × MovesLeave later moves left

-- so the moves of an actor's turns: the lane holds the first pages before the turns, and the last after them
abbrev pub FitsLane : Lane → List ℕ → Turns → List ℕ → Type 0
FitsLane lane pages turns left = MovesLeave pages (lane_list lane turns) left
