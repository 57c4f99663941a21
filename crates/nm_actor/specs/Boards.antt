-- What a board tells: who sits, who has stood, and what the chairs of those that have stood told.
use Rattle.std.specs.Prelude.{◌≡◌, ◌≢◌, ℕ, ◌+◌, ◌==◌, if◌then◌else◌, Bool, true, false, List, [], ◌∷◌, ◌++◌, map, sum_by, count_by, Option, None, Some, is_some, IsSomeAnd}
use Rattle.std.specs.List.{range_with_len}
use Rattle.nm_base.specs.Geometry.{Geometry}
use Rattle.nm_action.specs.Own.{Own}
use Rattle.nm_view.specs.Opening.{opening}
use Rattle.nm_actor.specs.Lanes.{LaneMove, LaneLists, put, took, Held, LaneState}
use Rattle.nm_actor.specs.Chairs.{ChairState}

-- the seat of an actor: it has not sat; it sits; or it has stood, and its chair told this own list
pub data Seat : Type 0 where
  not_sat : Seat
  sitting : Seat
  stood : Own → Seat

-- the name of the board, its geometry, the capacity of each lane; the seat of each actor; the lane lists of the actors that
-- have stood; and whether the last chair was given rest. From then until that chair stands, the lists that count are those
-- that it tells.
pub record BoardState (N : Type 0) : Type 0 where
  pub name : N
  pub geometry : Geometry
  pub candidates : ℕ
  pub pending : ℕ
  pub seats : ℕ → Seat
  pub lanes : ℕ → LaneLists
  pub rested : Bool

-- a table by actor with one entry changed
abbrev pub with_entry : {A : Type 0} → ℕ → A → (ℕ → A) → ℕ → A
with_entry actor entry table a = if a == actor then entry else table a

-- a chair is of this board, its actor has sat and not stood, and it was given rest exactly if the board gave it
pub record IsChairOf {N : Type 0} (b : BoardState N) (c : ChairState N) : Type 0 where
  pub name : c.board ≡ b.name
  pub geometry : c.geometry ≡ b.geometry
  pub sits : b.seats c.actor ≡ sitting
  pub rested : is_some c.others ≡ b.rested

-- a lane of a chair on which nothing was done
pub record IsOpeningLane (l : LaneState) : Type 0 where
  pub moves : l.moves ≡ []
  pub held : l.held ≡ None

-- a chair on which nothing was done
pub record IsOpeningChair {N : Type 0} (b : BoardState N) (actor : ℕ) (c : ChairState N) : Type 0 where
  pub geometry : c.geometry ≡ b.geometry
  pub sitter : c.actor ≡ actor
  pub own : c.own ≡ []
  pub view : c.view ≡ opening b.geometry actor
  pub candidates : IsOpeningLane c.candidates
  pub pending : IsOpeningLane c.pending
  pub others : c.others ≡ None
  pub board : c.board ≡ b.name

-- no other actor sits
abbrev pub IsLast : {N : Type 0} → BoardState N → ChairState N → Type 0
IsLast b c = (actor : ℕ) → actor ≢ c.actor → b.seats actor ≢ sitting

-- the lane lists of those that have stood: the chair tells them once it was given rest, and else the board
abbrev pub told_lanes : Option (ℕ → LaneLists) → (ℕ → LaneLists) → ℕ → LaneLists
told_lanes None lanes = lanes
told_lanes (Some others) lanes = others

-- how often a page was put, and taken, in a lane list
abbrev pub is_put : ℕ → LaneMove → Bool
is_put page (put b) = b == page
is_put page (took b) = false

abbrev pub is_took : ℕ → LaneMove → Bool
is_took page (put b) = false
is_took page (took b) = b == page

abbrev pub puts_of : ℕ → List (List LaneMove) → ℕ
puts_of page lists = sum_by (λ moves. count_by (is_put page) moves) lists

abbrev pub takes_of : ℕ → List (List LaneMove) → ℕ
takes_of page lists = sum_by (λ moves. count_by (is_took page) moves) lists

-- a lane holds the pages that these lane lists put and did not take
pub record IsRest (capacity : ℕ) (lists : List (List LaneMove)) (h : Held) : Type 0 where
  pub limit : h.capacity ≡ capacity
  pub pages : (page : ℕ) → count_by (λ b. b == page) h.pages + takes_of page lists ≡ puts_of page lists

-- a lane after rest: it tells what it holds, and nothing else has changed
pub record IsRestedLane (capacity : ℕ) (lists : List (List LaneMove)) (old new : LaneState) : Type 0 where
  pub is : new ≡ record old { held = new.held }
  pub held : IsSomeAnd new.held (IsRest capacity lists)

-- the lane lists of an actor by its seat: only those that have stood have any
abbrev pub stood_lanes : Seat → LaneLists → LaneLists
stood_lanes (stood _) lists = lists
stood_lanes _ lists = record { candidates = []; pending = [] }

-- the lane lists of all actors that have stood
abbrev pub all_stood : {N : Type 0} → BoardState N → ChairState N → List LaneLists
all_stood b c = map (λ a. stood_lanes (b.seats a) (told_lanes c.others b.lanes a)) (range_with_len 0 (b.geometry.cpus + 2))

-- the lane lists of all chairs, those of the actors that have stood and this one
abbrev pub all_candidates : {N : Type 0} → BoardState N → ChairState N → List (List LaneMove)
all_candidates b c = map (λ l. l.candidates) (all_stood b c) ++ c.candidates.moves ∷ []

abbrev pub all_pending : {N : Type 0} → BoardState N → ChairState N → List (List LaneMove)
all_pending b c = map (λ l. l.pending) (all_stood b c) ++ c.pending.moves ∷ []

-- a chair after rest
pub record IsRested {N : Type 0} (b : BoardState N) (old new : ChairState N) : Type 0 where
  pub is : new ≡ record old { candidates = new.candidates; pending = new.pending; others = Some (told_lanes old.others b.lanes) }
  pub candidates : IsRestedLane b.candidates (all_candidates b old) old.candidates new.candidates
  pub pending : IsRestedLane b.pending (all_pending b old) old.pending new.pending

-- a board after its last chair was given rest: that chair tells the lane lists of the others from then on
abbrev pub IsRestedBoard : {N : Type 0} → BoardState N → BoardState N → Type 0
IsRestedBoard old new = new ≡ record old { lanes = new.lanes; rested = true }

-- the lane lists of a chair
abbrev pub lanes_of : {N : Type 0} → ChairState N → LaneLists
lanes_of c = record { candidates = c.candidates.moves; pending = c.pending.moves }

abbrev pub with_sat : {N : Type 0} → ℕ → BoardState N → BoardState N
with_sat actor b = record b { seats = with_entry actor sitting b.seats }

-- a board to which a chair was given back: it tells the own list of that chair, and the lane lists of all that have stood
abbrev pub with_stood : {N : Type 0} → ChairState N → BoardState N → BoardState N
with_stood c b = record b { seats = with_entry c.actor (stood c.own) b.seats; lanes = with_entry c.actor (lanes_of c) (told_lanes c.others b.lanes) }
