-- A board over a running machine and two queues, as contracts see it.
use Rattle.std.specs.Prelude.{◌≡◌, ℕ, suc, ◌≤◌, Bool, true, false, List, [], ◌∷◌, ◌++◌, length, slice_index_or, count_by, Option, Some, None}
use Rattle.std.specs.List.{All}
use Rattle.nm_action.specs.Own.{Own}
use Rattle.nm_actor.specs.Lanes.{LaneLists}
use Rattle.nm_actor.specs.Boards.{BoardState, not_sat, sitting, stood, with_entry}
use Rattle.nm_actor.specs.Boards as boards
use Rattle.nm_arena.specs.Faces.{ArenaFace, SeatFace}
use Rattle.nm_arena.specs.Seats.{IsFirstSeat}
use Rattle.nm_queue.specs.Passes.{PassState, QueueState, IsAlone, with_joined}
use Rattle.nm_rule.specs.declared.known.ActorSeat.{ActorSeat}
use Rattle.nm_rule.specs.declared.known.ActorSeat.TheVariants.{Unsplit, Out, Back}
use Rattle.nm_rule.specs.Knows.{unstarted, no_geometry}
use Rattle.nm_arena_chair.specs.Names.{BoardName}
use Rattle.nm_queue.specs.Rules.{HasNoTwice}
use Rattle.nm_base.specs.Geometry.{Geometry}
use Rattle.nm_arena_chair.specs.ChairFaces.{board_name, stood_table, others_table, IsLastOrder}

-- the passes that a board holds of its queues; the actors that have stood, in that order; and for how many there is room
pub record MainFace : Type 0 where
  pub candidates : PassState
  pub pending : PassState
  pub order : List ℕ
  pub room : ℕ

-- a board: its machine and the first seat there; its queues; what it holds of them, but not from rest until the last chair
-- stands; and the actor of that chair, once it has stood
pub record BoardFace : Type 0 where
  pub arena : ArenaFace
  pub seat : SeatFace
  pub candidates : QueueState
  pub pending : QueueState
  pub main : Option MainFace
  pub last : Option ℕ

-- the seat of an actor, by what became of it
abbrev pub seat_by : ActorSeat → boards.Seat
seat_by (Unsplit p) = not_sat
seat_by Out = sitting
seat_by (Back p) = stood p.own

-- nobody sits beyond the list
abbrev pub nobody_there : ActorSeat
nobody_there = Unsplit (unstarted no_geometry 0)

-- the lane lists that a board tells. Before rest its passes took in those of the actors that stood. After the last chair has
-- stood they are that chair's: its own moves are those of the last actor.
abbrev pub told_by : Option MainFace → Option ℕ → ℕ → LaneLists
told_by None last actor = record { candidates = []; pending = [] }
told_by (Some m) None actor = stood_table m.order m.candidates.known.joined m.pending.known.joined actor
told_by (Some m) (Some last) actor = with_entry last (record { candidates = m.candidates.known.moves; pending = m.pending.known.moves })
    (others_table m.candidates.known m.pending.known m.order) actor

-- whether the last chair was given rest
abbrev pub has_rested : Option MainFace → Option ℕ → Bool
has_rested None last = true
has_rested (Some m) None = false
has_rested (Some m) (Some last) = true

abbrev pub board_state : BoardFace → BoardState BoardName
board_state b = record {
  name = board_name b.arena b.candidates b.pending;
  geometry = b.arena.geometry;
  candidates = b.candidates.capacity;
  pending = b.pending.capacity;
  seats = λ a. seat_by (slice_index_or b.seat.seats a nobody_there);
  lanes = told_by b.main b.last;
  rested = has_rested b.main b.last;
}

-- the seat was split off, whether or not it came back; it came back; it did not
abbrev pub has_sat : ActorSeat → Bool
has_sat (Unsplit p) = false
has_sat Out = true
has_sat (Back p) = true

abbrev pub has_stood : ActorSeat → Bool
has_stood (Unsplit p) = false
has_stood Out = false
has_stood (Back p) = true

-- a pass of a queue that made the passes of all that have sat, and took in those of all that have stood
pub record IsMaker (q : QueueState) (seats : List ActorSeat) (order : List ℕ) (p : PassState) : Type 0 where
  pub queue : p.queue ≡ q.name
  pub moves : p.known.moves ≡ []
  pub made : p.known.made ≡ Some (suc (count_by has_sat seats))
  pub joined : length p.known.joined ≡ length order

-- the actors that have stood, each once, in some order
pub record IsOrderOf (seats : List ActorSeat) (order : List ℕ) : Type 0 where
  pub many : length order ≡ count_by has_stood seats
  pub stood : All (λ a. has_stood (slice_index_or seats a nobody_there) ≡ true) order
  pub once : HasNoTwice order

-- the only pass of a queue that is left
pub record IsOnlyPass (q : QueueState) (p : PassState) : Type 0 where
  pub queue : p.queue ≡ q.name
  pub alone : IsAlone p.known

-- before rest: the passes of a board and its order, which has room for every actor
pub record IsTaking (q r : QueueState) (seats : List ActorSeat) (m : MainFace) : Type 0 where
  pub candidates : IsMaker q seats m.order m.candidates
  pub pending : IsMaker r seats m.order m.pending
  pub order : IsOrderOf seats m.order
  pub room : length seats ≤ m.room

-- after the last chair has stood: the passes of a board, which were that chair's
pub record IsLeft (q r : QueueState) (last : ℕ) (m : MainFace) : Type 0 where
  pub candidates : IsOnlyPass q m.candidates
  pub pending : IsOnlyPass r m.pending
  pub order : IsLastOrder last m.order m.candidates.known m.pending.known

-- an actor sits
pub record IsSatAt (seats : List ActorSeat) : Type 0 where
  pub actor : ℕ
  pub sits : slice_index_or seats actor nobody_there ≡ Out

-- what a board keeps of its passes and its order; while the last chair has them, its actor sits
abbrev pub IsMainKept : QueueState → QueueState → List ActorSeat → Option MainFace → Option ℕ → Type 0
IsMainKept q r seats None last = IsSatAt seats
IsMainKept q r seats (Some m) None = IsTaking q r seats m
IsMainKept q r seats (Some m) (Some last) = IsLeft q r last m

pub record IsBoardKept (arena : ArenaFace) (seat : SeatFace) (q r : QueueState) (main : Option MainFace) (last : Option ℕ) : Type 0 where
  pub seated : IsFirstSeat arena seat
  pub passes : IsMainKept q r seat.seats main last

-- a pass after another was joined into it
abbrev pub taking : PassState → PassState → PassState
taking other p = record p { known = with_joined other.known p.known }

-- the passes of a board after they took in those of an actor that stands
abbrev pub main_taking : ℕ → PassState → PassState → MainFace → MainFace
main_taking actor candidates pending m = record m {
  candidates = taking candidates m.candidates;
  pending = taking pending m.pending;
  order = m.order ++ actor ∷ [];
}

-- a board on which nobody has sat
abbrev pub new_board : BoardName → Geometry → ℕ → ℕ → BoardState BoardName
new_board name g candidates pending = record {
  name = name;
  geometry = g;
  candidates = candidates;
  pending = pending;
  seats = λ _. not_sat;
  lanes = λ _. record { candidates = []; pending = [] };
  rested = false;
}

-- the only pass of a queue, which has moved nothing
pub record IsFreshPass (q : QueueState) (p : PassState) : Type 0 where
  pub queue : p.queue ≡ q.name
  pub moves : p.known.moves ≡ []
  pub joined : p.known.joined ≡ []
  pub made : p.known.made ≡ Some 1

-- the own list that a board tells of an actor: one that has not stood has none
abbrev pub told_own : boards.Seat → Own
told_own not_sat = []
told_own sitting = []
told_own (stood own) = own
