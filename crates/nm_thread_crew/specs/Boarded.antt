-- Actors on a board.
use Rattle.std.specs.Prelude.{◌≡◌, ◌≢◌, ℕ, ◌+◌, ◌<◌, ◌≤◌, List, ◌++◌, length, map, Option, Some, None, true, false}
use Rattle.std.specs.List.{range_with_len}
use Rattle.nm_base.specs.Geometry.{Geometry}
use Rattle.nm_action.specs.declared.turn.Lane.{Lane}
use Rattle.nm_action.specs.declared.turn.Lane.TheVariants.{Candidates, Pending}
use Rattle.nm_action.specs.declared.turn.Turn.{Turn}
use Rattle.nm_action.specs.declared.turn.Turn.TheVariants.{End}
use Rattle.nm_crew.specs.Crewed.{AtEach}
use Rattle.nm_actor.specs.Turns.{Turns, own_list, lane_list, lane_lists, turns_view, IsDrained}
use Rattle.nm_actor.specs.Lanes.{LaneMove, LaneLists}
use Rattle.nm_actor.specs.Chairs.{ChairState}
use Rattle.nm_actor.specs.Boards.{BoardState, Seat, not_sat, sitting, stood, puts_of, takes_of}

-- it gave End after some turns
pub record HasEnded (agrees : Turns → Option Turn → Type 0) : Type 0 where
  pub turns : Turns
  pub agreed : agrees turns (Some End)

-- Sitting down.

-- the actors from a number on up to another sit, and all else is as before
pub record HaveSat {N : Type 0} (from to : ℕ) (old new : BoardState N) : Type 0 where
  pub is : new ≡ record old { seats = new.seats }
  pub sat : (a : ℕ) → from ≤ a → a < to → new.seats a ≡ sitting
  pub below : (a : ℕ) → a < from → new.seats a ≡ old.seats a
  pub above : (a : ℕ) → to ≤ a → new.seats a ≡ old.seats a

-- nobody has sat
pub record IsNewBoard {N : Type 0} (b : BoardState N) : Type 0 where
  pub seats : (a : ℕ) → b.seats a ≡ not_sat
  pub rested : b.rested ≡ false

-- Chairs at which actors have ended.

-- an actor has ended at its chair, whose lists are those of the turns with which it agrees
pub record HasEndedAt {N : Type 0} (b : BoardState N) (number : ℕ) (agrees : Turns → Option Turn → Type 0) (last : Option Turn) (chair : ChairState N) : Type 0 where
  pub turns : Turns
  pub agreed : agrees turns last
  pub own : chair.own ≡ own_list turns
  pub candidates : chair.candidates.moves ≡ lane_list Candidates turns
  pub pending : chair.pending.moves ≡ lane_list Pending turns
  pub view : chair.view ≡ turns_view b.geometry number turns
  pub machine : chair.geometry ≡ b.geometry
  pub sitter : chair.actor ≡ number
  pub name : chair.board ≡ b.name

-- Standing.

-- an actor has ended and stood: the lists that the board tells are those of the turns with which it agrees
pub record HasStood {N : Type 0} (b : BoardState N) (number : ℕ) (agrees : Turns → Option Turn → Type 0) : Type 0 where
  pub turns : Turns
  pub agreed : agrees turns (Some End)
  pub seat : b.seats number ≡ stood (own_list turns)
  pub lanes : b.lanes number ≡ lane_lists turns

-- all else than seats and lanes is as before
pub record IsSameBoard {N : Type 0} (old new : BoardState N) : Type 0 where
  pub is : new ≡ record old { seats = new.seats; lanes = new.lanes }

-- A lane that is empty.

-- the moves of one lane
abbrev pub moves_of : Lane → LaneLists → List LaneMove
moves_of Candidates lists = lists.candidates
moves_of Pending lists = lists.pending

-- what the board tells of a lane, of each actor of its machine
abbrev pub told_moves : {N : Type 0} → Lane → BoardState N → List (List LaneMove)
told_moves lane b = map (λ a. moves_of lane (b.lanes a)) (range_with_len 0 (b.geometry.cpus + 2))

-- all actors together took each page from the lane as often as they put it there
abbrev pub IsEmptied : {N : Type 0} → Lane → BoardState N → Type 0
IsEmptied lane b = (page : ℕ) → takes_of page (told_moves lane b) ≡ puts_of page (told_moves lane b)

-- an actor has stood
abbrev pub IsStood : Seat → Type 0
IsStood (stood own) = Unit {0}
IsStood _ = ⊥

-- all actors of the machine but one have stood
abbrev pub HaveOthersStood : {N : Type 0} → BoardState N → ℕ → Type 0
HaveOthersStood b n = (a : ℕ) → a < b.geometry.cpus + 2 → a ≢ n → IsStood (b.seats a)

-- Resting.

-- an actor that was made so ended, and began again after its chair was given rest; it ended again and stood as the last one. It agrees
-- with the turns before rest and with those since, and a lane that it found empty at last is empty
pub record HasStoodLast {N K Made : Type 0} (made : K → Made) (resumed : Made → Made) (agrees : K → Turns → Option Turn → Type 0) (b : BoardState N) (number : ℕ) (entered : Made) (last : K) : Type 0 where
  pub first : K
  pub before : Turns
  pub since : Turns
  pub same : made first ≡ entered
  pub again : made last ≡ resumed entered
  pub ended : agrees first before (Some End)
  pub agreed : agrees last (before ++ since) (Some End)
  pub seat : b.seats number ≡ stood (own_list (before ++ since))
  pub lanes : b.lanes number ≡ lane_lists (before ++ since)
  pub emptied : (lane : Lane) → IsDrained lane since → IsEmptied lane b

-- the last actor has stood: what the board tells of the others is as before
pub record IsFinished {N : Type 0} (n : ℕ) (old new : BoardState N) : Type 0 where
  pub is : new ≡ record old { seats = new.seats; lanes = new.lanes; rested = true }
  pub seats : (a : ℕ) → a ≢ n → new.seats a ≡ old.seats a
  pub lanes : (a : ℕ) → a ≢ n → new.lanes a ≡ old.lanes a

-- all actors of a machine have ended and stood, the last one of them after rest; of a number that is no actor's the board tells the lanes
-- that it told
pub record IsCrewDone {N C : Type 0} (cpu_agrees : C → Turns → Option Turn → Type 0) (reclaimer_agrees : Turns → Option Turn → Type 0) (cpus : List C) (old new : BoardState N) : Type 0 where
  pub is : new ≡ record old { seats = new.seats; lanes = new.lanes; rested = true }
  pub many : length cpus ≡ old.geometry.cpus
  pub each : AtEach (λ n c. HasStood new n (cpu_agrees c)) cpus
  pub reclaimer : HasStood new (old.geometry.cpus + 1) reclaimer_agrees
  pub nobody : (a : ℕ) → old.geometry.cpus + 2 ≤ a → new.lanes a ≡ old.lanes a

-- an actor that was made so sits at its place, and agrees with what its chair tells; the chair was not given rest
pub record IsSeated {N M : Type 0} (b : BoardState N) (n : ℕ) (geometry : M → Geometry) (number : M → ℕ) (made : M) (agrees : Turns → Option Turn → Type 0) (last : Option Turn) (chair : ChairState N) : Type 0 where
  pub machine : geometry made ≡ b.geometry
  pub same : number made ≡ n
  pub at : HasEndedAt b n agrees last chair
  pub others : chair.others ≡ None
