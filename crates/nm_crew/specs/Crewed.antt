-- A simulation of any actors: what they agree with at its end, and what they counted.
use Rattle.std.specs.Prelude.{◌≡◌, ℕ, ◌+◌, ◌<◌, Bool, List, [], ◌∷◌, ◌++◌, length, slice_index_or, Option, Some}
use Rattle.nm_base.specs.Geometry.{Geometry}
use Rattle.nm_action.specs.declared.action.Event.{Event}
use Rattle.nm_action.specs.declared.tally.Tally.{Tally}
use Rattle.nm_action.specs.declared.turn.Turn.{Turn}
use Rattle.nm_action.specs.Tally.{sum_of}
use Rattle.nm_tally.specs.Counts.{zero_tally}
use Rattle.nm_core.specs.EndWords.{EndWords}
use Rattle.nm_actor.specs.Turns.{Turns}
use Rattle.nm_script.specs.declared.schedule.Schedule.{Schedule}
use Rattle.nm_schedule.specs.declared.turn.Played.{Played}
use Rattle.nm_schedule.specs.declared.turn.SimTurn.{SimTurn}
use Rattle.nm_schedule.specs.Played.{turns_by, has_ended}
use Rattle.nm_play.specs.Played.{is_end}
use Rattle.nm_crew.specs.Simulated.{IsSimulated}

-- what is said of each element of a list and its place, whatever is read beyond the list
abbrev pub AtEach : {A : Type 0} → (ℕ → A → Type 0) → List A → Type 0
AtEach {A} said list = (place : ℕ) (beyond : A) → place < length list → said place (slice_index_or list place beyond)

-- an actor is the one of a place in a machine, and has given no turn
pub record IsNewAt {M : Type 0} (geometry : M → Geometry) (number : M → ℕ) (made : M) (is_new : Type 0) (g : Geometry) (actor : ℕ) : Type 0 where
  pub machine : geometry made ≡ g
  pub same : number made ≡ actor
  pub new : is_new

-- an actor agrees with these answered turns, and has given a turn since, which is End where it has ended
pub record IsAgreed (agrees : Turns → Option Turn → Type 0) (turns : Turns) (ended : Bool) : Type 0 where
  pub last : Turn
  pub agreed : agrees turns (Some last)
  pub given : ended ≡ is_end last

-- an actor at its place agrees with exactly its part of the turns
abbrev pub IsAgreedAt : (Turns → Option Turn → Type 0) → List Played → ℕ → Type 0
IsAgreedAt agrees played actor = IsAgreed agrees (turns_by actor played) (has_ended played actor)

-- a simulation of processors, a migrator and a reclaimer, which agree so: there are as many processors as the machine has, and
-- each actor agrees with exactly its part of the turns
pub record IsCrewRun {C : Type 0} (cpu_agrees : C → Turns → Option Turn → Type 0) (migrator_agrees reclaimer_agrees : Turns → Option Turn → Type 0) (g : Geometry) (schedule : Schedule) (cpus : List C) (events : List Event) (order : List SimTurn) (turns : ℕ) (end : EndWords) : Type 0 where
  pub played : List Played
  pub simulated : IsSimulated g schedule events order turns end played
  pub many : length cpus ≡ g.cpus
  pub each : AtEach (λ cpu c. IsAgreedAt (cpu_agrees c) played cpu) cpus
  pub migrator : IsAgreedAt migrator_agrees played g.cpus
  pub reclaimer : IsAgreedAt reclaimer_agrees played (g.cpus + 1)

-- such a simulation, of which a watcher keeps what it may: some events and some order are those of it, and what is kept agrees
-- with its turns
pub record IsWatchedCrewRun {C : Type 0} (cpu_agrees : C → Turns → Option Turn → Type 0) (migrator_agrees reclaimer_agrees : Turns → Option Turn → Type 0) (g : Geometry) (schedule : Schedule) (cpus : List C) (kept : List Played → Type 0) (turns : ℕ) (end : EndWords) : Type 0 where
  pub events : List Event
  pub order : List SimTurn
  pub run : IsCrewRun cpu_agrees migrator_agrees reclaimer_agrees g schedule cpus events order turns end
  pub told : kept run.played

-- the counts so far with those of some actors, each count at most 2^64 - 1
abbrev pub tallies_from : Tally → List Tally → Tally
tallies_from tally [] = tally
tallies_from tally (counts ∷ tallies) = tallies_from (sum_of tally counts) tallies

-- the counts of some actors together, each at most 2^64 - 1
abbrev pub tally_of : List Tally → Tally
tally_of tallies = tallies_from zero_tally tallies

-- the counts of the actor of a number
abbrev pub counts_at : List Tally → ℕ → Tally
counts_at tallies actor = slice_index_or tallies actor zero_tally

-- the counts of the processors, of the migrator and of the reclaimer, by their numbers
abbrev pub crew_tallies : List Tally → Tally → Tally → List Tally
crew_tallies cpus migrator reclaimer = cpus ++ migrator ∷ reclaimer ∷ []
