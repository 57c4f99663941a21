-- A lane of a chair, by the chair's pass of the lane's queue.
use Rattle.std.specs.Prelude.{◌≡◌, ℕ, Bool, true, false, [], Option, Some, None}
use Rattle.nm_actor.specs.Lanes.{LaneState, Held}
use Rattle.nm_queue.specs.Histories.{pages_left}
use Rattle.nm_queue.specs.Passes.{PassState, QueueState, Known, IsAlone}

-- what the lane holds, once the pass is the only one
abbrev pub held_by : Bool → ℕ → Known → Option Held
held_by false capacity k = None
held_by true capacity k = Some (record { capacity = capacity; pages = pages_left k.seen })

abbrev pub lane_by : Bool → ℕ → PassState → LaneState
lane_by rested capacity p = record { moves = p.known.moves; fulls = p.fulls; empties = p.empties; held = held_by rested capacity p.known }

-- no pass was joined into this one, and it makes none
pub record IsSingle (k : Known) : Type 0 where
  pub joined : k.joined ≡ []
  pub made : k.made ≡ None

-- before the chair was given rest its pass is one of several; from then on it is the only one
abbrev pub IsAloneAt : Bool → Known → Type 0
IsAloneAt false k = IsSingle k
IsAloneAt true k = IsAlone k

-- a pass of a queue, which is the only one once the chair was given rest
pub record IsPassAt (rested : Bool) (q : QueueState) (p : PassState) : Type 0 where
  pub queue : p.queue ≡ q.name
  pub alone : IsAloneAt rested p.known
