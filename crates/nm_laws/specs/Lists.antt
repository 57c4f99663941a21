-- Where a list of events stops to be a run.
use Rattle.std.specs.Prelude.{◌≡◌, ℕ, List, ◌∷◌, ◌++◌, length}
use Rattle.nm_base.specs.Geometry.{Geometry}
use Rattle.nm_action.specs.declared.action.Event.{Event}
use Rattle.nm_core.specs.Runs.{IsStep, IsRun, state_after}

-- event i of a list is the first that is no step: those before it are a run, and it is no step from the state after them
pub record IsFirstFailure (g : Geometry) (events : List Event) (i : ℕ) : Type 0 where
  pub front : List Event
  pub event : Event
  pub rest : List Event
  pub list : events ≡ front ++ event ∷ rest
  pub number : i ≡ length front
  pub run : IsRun g front
  pub fails : ¬ IsStep (state_after g front) event
