-- Turns that actors played on a machine.
use Rattle.std.specs.Prelude.{◌≡◌, ℕ, ◌<◌, ◌≤◌, Bool, true, false, List, [], length, slice_index_or, Option, None}
use Rattle.nm_base.specs.Geometry.{Geometry, IsGeometry}
use Rattle.nm_action.specs.declared.action.Event.{Event}
use Rattle.nm_action.specs.declared.turn.Lane.{Lane}
use Rattle.nm_action.specs.declared.turn.Turn.{Turn}
use Rattle.nm_action.specs.declared.turn.Turn.TheVariants.{Do, Put, Take, End}
use Rattle.nm_view.specs.Opening.{IsActor}
use Rattle.nm_event.specs.Fitting.{Fits}
use Rattle.nm_core.specs.State.{State, view_of, actor_count}
use Rattle.nm_core.specs.Runs.{IsStep, IsRun, state_after}
use Rattle.nm_actor.specs.Actors.{IsTurn}
use Rattle.nm_actor.specs.Turns.{Turns}
use Rattle.nm_queue.specs.Ports.{PortLanes, held_in}
use Rattle.nm_script.specs.declared.schedule.Schedule.{Schedule}
use Rattle.nm_schedule.specs.declared.turn.Played.{Played}
use Rattle.nm_schedule.specs.declared.turn.SimTurn.{SimTurn}
use Rattle.nm_schedule.specs.Played.{turns_by, has_ended, events_of, order_of}
use Rattle.nm_schedule.specs.Lanes.{lane_capacity, pages_in, puts_in, takes_in, IsLaneAnswer}
use Rattle.nm_schedule.specs.Scheduled.{AreTurns, IsScheduled}
use Rattle.nm_schedule.specs.Standing.{Standing, StandsAfter}

-- the reply of each step after a run fits its action and the view of its actor
abbrev pub RepliesFit : Type 0
RepliesFit = (g : Geometry) (events : List Event) (e : Event) → IsGeometry g → IsRun g events → IsStep (state_after g events) e
    → Fits g (view_of (state_after g events) e.actor) e.action e.reply

abbrev pub is_end : Turn → Bool
is_end (Do _) = false
is_end (Put _ _) = false
is_end (Take _) = false
is_end End = true

-- an actor agrees with exactly its part of a list of turns, and has given this turn since; it has ended where that is End
pub record HasGiven (g : Geometry) (agrees : Turns → Option Turn → Type 0) (played : List Played) (actor : ℕ) (turn : Turn) : Type 0 where
  pub next : IsTurn g actor agrees (turns_by actor played) turn
  pub ended : has_ended played actor ≡ is_end turn

-- a lane holds what a list of turns left in it; no more pages were taken than put
pub record IsLane (g : Geometry) (lanes : PortLanes) (played : List Played) (lane : Lane) : Type 0 where
  pub capacity : (held_in lane lanes).capacity ≡ lane_capacity g lane
  pub pages : (held_in lane lanes).pages ≡ pages_in lane played
  pub taken : length (takes_in lane played) ≤ length (puts_in lane played)

-- a list of turns, as far as it is played: what is kept agrees with it; its events are a run, which led to this state; the lanes hold what it left in them; and each actor agrees with its part and has given the next turn
pub record IsPlaying (g : Geometry) (agrees : ℕ → Turns → Option Turn → Type 0) (state : State) (lanes : PortLanes) (given : List Turn) (kept : List Played → Type 0) (played : List Played) : Type 0 where
  pub run : IsRun g (events_of played)
  pub reached : state ≡ state_after g (events_of played)
  pub held : (lane : Lane) → IsLane g lanes played lane
  pub actors : length given ≡ actor_count g
  pub gave : (actor : ℕ) → IsActor g actor → HasGiven g (agrees actor) played actor (slice_index_or given actor End)
  pub told : kept played

-- an actor at the end of a list of turns: it agrees with exactly its part, and has ended exactly where it gave End since
pub record HasPlayed (g : Geometry) (agrees : Turns → Option Turn → Type 0) (played : List Played) (actor : ℕ) : Type 0 where
  pub last : Turn
  pub given : HasGiven g agrees played actor last

-- a run of a schedule: the turns are those of the schedule; the events and the order are those of the turns; the events are
-- a run, which led to this state; and each actor agrees with exactly its part of the turns
pub record IsRunOf (g : Geometry) (schedule : Schedule) (agrees : ℕ → Turns → Option Turn → Type 0) (state : State) (events : List Event) (order : List SimTurn) : Type 0 where
  pub played : List Played
  pub scheduled : IsScheduled g schedule played
  pub listed : events ≡ events_of played
  pub ordered : order ≡ order_of played
  pub run : IsRun g events
  pub reached : state ≡ state_after g events
  pub actors : (actor : ℕ) → IsActor g actor → HasPlayed g (agrees actor) played actor

-- a run of a schedule, of which a watcher keeps what it may: some events and some order are those of a run of the schedule, what
-- is kept agrees with its turns, and there are so many
pub record IsWatchedRun (g : Geometry) (schedule : Schedule) (agrees : ℕ → Turns → Option Turn → Type 0) (state : State) (kept : List Played → Type 0) (turns : ℕ) : Type 0 where
  pub events : List Event
  pub order : List SimTurn
  pub run : IsRunOf g schedule agrees state events order
  pub told : kept run.played
  pub many : turns ≡ length run.played

-- a list with the events of these turns, and one with the turns
pub record AreKept (events : List Event) (order : List SimTurn) (played : List Played) : Type 0 where
  pub listed : events ≡ events_of played
  pub ordered : order ≡ order_of played

-- the machine after these turns
pub record IsBefore (g : Geometry) (state : State) (played : List Played) : Type 0 where
  pub run : IsRun g (events_of played)
  pub reached : state ≡ state_after g (events_of played)

-- the first turns of the actors below a number were given; the others are to hear Start
pub record AreGivenBelow (g : Geometry) (agrees : ℕ → Turns → Option Turn → Type 0) (given : List Turn) (n : ℕ) : Type 0 where
  pub size : length given ≡ n
  pub turns : (actor : ℕ) → actor < n → IsTurn g actor (agrees actor) [] (slice_index_or given actor End)
  pub others : (actor : ℕ) → n ≤ actor → IsActor g actor → agrees actor [] None

-- some turns were played, and an actor has not ended
pub record HasPlaying (g : Geometry) (agrees : ℕ → Turns → Option Turn → Type 0) (state : State) (lanes : PortLanes) (given : List Turn) (kept : List Played → Type 0) (actor : ℕ) : Type 0 where
  pub played : List Played
  pub playing : IsPlaying g agrees state lanes given kept played
  pub exists : IsActor g actor
  pub active : has_ended played actor ≡ false

-- a turn of this actor was played after these turns, and the lanes answered it
pub record IsTurnPlayed (g : Geometry) (actor : ℕ) (before : List Played) (p : Played) : Type 0 where
  pub same : p.actor ≡ actor
  pub lanes : IsLaneAnswer g before p.turn p.heard

-- as far as a schedule is played: the turns are its, and its picker stands after them
pub record IsSoFar (g : Geometry) (schedule : Schedule) (agrees : ℕ → Turns → Option Turn → Type 0) (state : State) (lanes : PortLanes) (given : List Turn) (kept : List Played → Type 0) (picker : Standing) (played : List Played) : Type 0 where
  pub playing : IsPlaying g agrees state lanes given kept played
  pub turns : AreTurns g schedule [] played
  pub stands : StandsAfter schedule (actor_count g) picker played

-- so many turns of a schedule were played
pub record IsAtTurn (g : Geometry) (schedule : Schedule) (agrees : ℕ → Turns → Option Turn → Type 0) (state : State) (lanes : PortLanes) (given : List Turn) (kept : List Played → Type 0) (picker : Standing) (n : ℕ) : Type 0 where
  pub played : List Played
  pub so_far : IsSoFar g schedule agrees state lanes given kept picker played
  pub many : length played ≡ n

-- the turns of a schedule were played to the end
pub record IsPlayedOut (g : Geometry) (schedule : Schedule) (agrees : ℕ → Turns → Option Turn → Type 0) (state : State) (lanes : PortLanes) (given : List Turn) (kept : List Played → Type 0) (turns : ℕ) : Type 0 where
  pub played : List Played
  pub many : turns ≡ length played
  pub playing : IsPlaying g agrees state lanes given kept played
  pub scheduled : IsScheduled g schedule played
