-- A chair over a running machine and two queues, as contracts see it.
use Rattle.std.specs.Prelude.{◌≡◌, ℕ, suc, ◌==◌, if◌then◌else◌, List, [], ◌∷◌, length, Option, Some, None, is_some}
use Rattle.std.specs.Option.{option_map}
use Rattle.nm_actor.specs.Lanes.{LaneMove, LaneLists}
use Rattle.nm_actor.specs.Chairs.{ChairState}
use Rattle.nm_arena.specs.Faces.{ArenaFace, SeatFace}
use Rattle.nm_arena.specs.Seats.{IsActorSeat}
use Rattle.nm_queue.specs.Passes.{PassState, QueueState, Known, JoinedPass, with_joined}
use Rattle.nm_queue.specs.Rules.{HasNoTwice}
use Rattle.nm_arena_chair.specs.Names.{BoardName}
use Rattle.nm_arena_chair.specs.LaneFaces.{lane_by, IsPassAt}

-- the moves of an actor, by the order in which actors stood and the passes that were joined in that order; one that has not
-- stood has none
abbrev pub moves_at : List ℕ → List JoinedPass → ℕ → List LaneMove
moves_at [] passes actor = []
moves_at (a ∷ order) [] actor = []
moves_at (a ∷ order) (j ∷ passes) actor = if actor == a then j.moves else moves_at order passes actor

-- the passes that were joined into a pass before another one took it in as its first
abbrev pub joined_later : List JoinedPass → List JoinedPass
joined_later [] = []
joined_later (j ∷ passes) = passes

-- the lane lists of those that stood, by their order and their passes of both queues
abbrev pub stood_table : List ℕ → List JoinedPass → List JoinedPass → ℕ → LaneLists
stood_table order candidates pending actor = record { candidates = moves_at order candidates actor; pending = moves_at order pending actor }

-- what the last chair tells of those that stood before: the first pass that was joined into its own is that of the board
abbrev pub others_table : Known → Known → List ℕ → ℕ → LaneLists
others_table candidates pending order = stood_table order (joined_later candidates.joined) (joined_later pending.joined)

abbrev pub board_name : ArenaFace → QueueState → QueueState → BoardName
board_name arena candidates pending = record { arena = arena.table; candidates = candidates.name; pending = pending.name }

-- a chair: its machine and its seat there; its queues and its passes of them; once it was given rest, the actors that stood
-- before, in that order
pub record ChairFace : Type 0 where
  pub arena : ArenaFace
  pub seat : SeatFace
  pub candidates : QueueState
  pub candidate_pass : PassState
  pub pending : QueueState
  pub pending_pass : PassState
  pub others : Option (List ℕ)

-- what it tells
abbrev pub chair_state : ChairFace → ChairState BoardName
chair_state c = record {
  geometry = c.arena.geometry;
  actor = c.seat.view.number;
  own = c.seat.own;
  view = c.seat.view;
  candidates = lane_by (is_some c.others) c.candidates.capacity c.candidate_pass;
  pending = lane_by (is_some c.others) c.pending.capacity c.pending_pass;
  others = option_map (others_table c.candidate_pass.known c.pending_pass.known) c.others;
  board = board_name c.arena c.candidates c.pending;
}

-- the moves of the first of these passes
abbrev pub first_moves : List JoinedPass → List LaneMove
first_moves [] = []
first_moves (j ∷ passes) = j.moves

-- that of a board was joined into a pass, which moved nothing, and so many others with it
pub record HasTaken (many : ℕ) (k : Known) : Type 0 where
  pub passes : length k.joined ≡ suc many
  pub first : first_moves k.joined ≡ []

-- the actors that stood before the last one, by its passes: none stands twice there, and none is the last one
pub record IsLastOrder (actor : ℕ) (order : List ℕ) (mine own : Known) : Type 0 where
  pub candidates : HasTaken (length order) mine
  pub pending : HasTaken (length order) own
  pub once : HasNoTwice (actor ∷ order)

abbrev pub IsOthersKept : Option (List ℕ) → ℕ → Known → Known → Type 0
IsOthersKept None actor mine own = Unit {0}
IsOthersKept (Some order) actor mine own = IsLastOrder actor order mine own

-- what a chair keeps
pub record IsChairKept (arena : ArenaFace) (seat : SeatFace) (candidates : QueueState) (mine : PassState) (pending : QueueState) (own : PassState) (before : Option (List ℕ)) : Type 0 where
  pub seated : IsActorSeat arena seat
  pub candidate_pass : IsPassAt (is_some before) candidates mine
  pub pending_pass : IsPassAt (is_some before) pending own
  pub others : IsOthersKept before seat.view.number mine.known own.known

-- the pass of a board when only the last chair's is left beside it: it moved nothing, took in so many others, and made all of these
pub record IsBoardPass (q : QueueState) (many : ℕ) (p : PassState) : Type 0 where
  pub queue : p.queue ≡ q.name
  pub moves : p.known.moves ≡ []
  pub joined : length p.known.joined ≡ many
  pub made : p.known.made ≡ Some (suc (suc many))

-- a chair after it was given rest, by queues of the board and its passes of them
abbrev pub rested_face : QueueState → PassState → QueueState → PassState → List ℕ → ChairFace → ChairFace
rested_face candidates candidate_pass pending pending_pass order c = record c {
  candidates = candidates;
  candidate_pass = record c.candidate_pass { known = with_joined candidate_pass.known c.candidate_pass.known };
  pending = pending;
  pending_pass = record c.pending_pass { known = with_joined pending_pass.known c.pending_pass.known };
  others = Some order;
}
