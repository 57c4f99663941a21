-- What all actors did in a lane.
use Rattle.std.specs.Prelude.{◌≡◌, ℕ, List}
use Rattle.nm_actor.specs.Lanes.{LaneMove}
use Rattle.nm_queue.specs.Histories.{History, moves_by, IsFifo, pages_left}

-- What all actors put into a lane and took from it stands in one history, which is first in, first out: the part of each actor is its
-- lane list; and these pages are left.
pub record IsLaneHistory (lists : ℕ → List LaneMove) (pages : List ℕ) : Type 0 where
  pub history : History
  pub fifo : IsFifo history
  pub parts : (actor : ℕ) → moves_by actor history ≡ lists actor
  pub left : pages_left history ≡ pages
