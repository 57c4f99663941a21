-- A run with one event more.
use Rattle.std.proofs.Common.{◌≡◌, List, [], ◌∷◌, ◌++◌, refl}
use Rattle.nm_action.specs.declared.action.Event.{Event}
use Rattle.nm_core.specs.Runs.{IsStep, IsRunFrom, after_event, state_from}
use Rattle.nm_core.specs.State.{State}

-- the state after one event more
pub state_from-more : (s : State) (events : List Event) (e : Event) → state_from s (events ++ e ∷ []) ≡ after_event (state_from s events) e
state_from-more s [] e = refl
state_from-more s (x ∷ events) e = state_from-more (after_event s x) events e

-- a run with one step more
pub run_from-more : (s : State) (events : List Event) (e : Event) → IsRunFrom s events → IsStep (state_from s events) e → IsRunFrom s (events ++ e ∷ [])
run_from-more s [] e run made = (made, tt)
run_from-more s (x ∷ events) e run made = (run.0, run_from-more (after_event s x) events e run.1 made)
