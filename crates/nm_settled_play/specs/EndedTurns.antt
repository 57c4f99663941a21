-- What actors that have ended leave in the turns of a simulation.
use Rattle.std.specs.Prelude.{ℕ, ◌+◌, ◌<◌, List, Option, Some}
use Rattle.nm_base.specs.Geometry.{Geometry}
use Rattle.nm_action.specs.declared.turn.Turn.{Turn}
use Rattle.nm_action.specs.declared.turn.Turn.TheVariants.{End}
use Rattle.nm_view.specs.Opening.{IsActor}
use Rattle.nm_core.specs.Runs.{IsRun, state_after}
use Rattle.nm_actor.specs.Turns.{Turns, own_list, turns_view}
use Rattle.nm_script.specs.declared.schedule.Schedule.{Schedule}
use Rattle.nm_schedule.specs.declared.turn.Played.{Played}
use Rattle.nm_schedule.specs.Played.{turns_by, events_of}
use Rattle.nm_schedule.specs.Scheduled.{IsScheduled}
use Rattle.nm_marks.specs.Marks.{HasOnlyMarks, IsNoMark}
use Rattle.nm_settled.specs.Ended.{IsEndedView, HasNoMark}
use Rattle.nm_unmarked.specs.Unmarking.{IsProcessorUnmarking, IsMigratorUnmarking}

-- each actor's part of some turns leaves the view of an actor that has ended
abbrev pub HaveEndedTurns : Geometry → List Played → Type 0
HaveEndedTurns g played = (actor : ℕ) → IsActor g actor → IsEndedView g actor (turns_view g actor (turns_by actor played))

-- an actor that has given End after some turns leaves such a view
abbrev pub LeaveEndedViews : Geometry → (ℕ → Turns → Option Turn → Type 0) → Type 0
LeaveEndedViews g agrees = (actor : ℕ) (turns : Turns) → IsActor g actor → agrees actor turns (Some End) → IsEndedView g actor (turns_view g actor turns)

-- each actor agrees with its part of some turns, and has given End after it
abbrev pub HaveGivenEnd : Geometry → (ℕ → Turns → Option Turn → Type 0) → List Played → Type 0
HaveGivenEnd g agrees played = (actor : ℕ) → IsActor g actor → agrees actor (turns_by actor played) (Some End)

-- the actors together leave no mark: where all of them have given End after the turns of a schedule, no page has one
abbrev pub LeaveNoMark : Geometry → Schedule → (ℕ → Turns → Option Turn → Type 0) → Type 0
LeaveNoMark g schedule agrees = (played : List Played) → IsScheduled g schedule played → IsRun g (events_of played) → HaveGivenEnd g agrees played → HasNoMark (state_after g (events_of played))

-- each actor's part of some turns shows that it takes its marks back; the reclaimer makes no Mark
pub record TurnsTakeMarksBack (g : Geometry) (played : List Played) : Type 0 where
  pub processors : (cpu : ℕ) → cpu < g.cpus → IsProcessorUnmarking (own_list (turns_by cpu played))
  pub migrator : IsMigratorUnmarking g (own_list (turns_by g.cpus played))
  pub reclaimer : HasOnlyMarks IsNoMark (own_list (turns_by (g.cpus + 1) played))
