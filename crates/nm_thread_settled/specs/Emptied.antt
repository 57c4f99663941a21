-- Lanes of which nothing is left.
use Rattle.std.specs.Prelude.{◌≡◌, ℕ, []}
use Rattle.nm_action.specs.declared.turn.Lane.{Lane}
use Rattle.nm_actor.specs.Turns.{Turns, lane_list}
use Rattle.nm_queue.specs.Histories.{History, moves_by, IsFifo, pages_left}

-- What all actors put into a lane and took from it stands in one history, which is first in, first out: the part of each actor is what
-- its turns did in the lane; and no page is left.
pub record IsEmptiedLane (lane : Lane) (turns : ℕ → Turns) : Type 0 where
  pub history : History
  pub fifo : IsFifo history
  pub parts : (actor : ℕ) → moves_by actor history ≡ lane_list lane (turns actor)
  pub none : pages_left history ≡ []
