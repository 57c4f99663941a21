-- An actor of a machine, and a part that is run by one, as far as they have come.
use Rattle.std.specs.Prelude.{◌≡◌, ℕ, Option}
use Rattle.nm_base.specs.Geometry.{Geometry}
use Rattle.nm_action.specs.declared.action.Action.{Action}
use Rattle.nm_action.specs.declared.action.Reply.{Reply}
use Rattle.nm_action.specs.declared.turn.Step.{Step}
use Rattle.nm_action.specs.declared.turn.Turn.{Turn}
use Rattle.nm_action.specs.Own.{Own}
use Rattle.nm_view.specs.Views.{View}
use Rattle.nm_event.specs.After.{after_of, view_after}
use Rattle.nm_event.specs.Fitting.{Fits}
use Rattle.nm_part.specs.Parts.{IsPartStep}
use Rattle.nm_actor.specs.Turns.{Turns, turns_view}
use Rattle.nm_actor.specs.Actors.{IsTurn}

-- the actor did the list of the part so far, which took its view from the first one to this, and the part has given this step
pub record IsFollowing {O : Type 0} (awaits : Geometry → View → Own → Action → Type 0) (shape : Geometry → Own → O → Type 0) (leaves : Geometry → View → O → View → Type 0) (ended : Geometry → Own → O → Type 0) (g : Geometry) (first now : View) (step : Step O) : Type 0 where
  pub own : Own
  pub is : now ≡ view_after g first own
  pub given : IsPartStep awaits shape leaves ended g first own step

-- an action was answered so: the reply fits, and the view changed by it
pub record IsMade (g : Geometry) (old new : View) (action : Action) (reply : Reply) : Type 0 where
  pub fits : Fits g old action reply
  pub view : new ≡ after_of g old action reply

-- the actor gave turns that were answered, which took its view to this one, and has given this turn
pub record IsActing (g : Geometry) (number : ℕ) (agrees : Turns → Option Turn → Type 0) (now : View) (turn : Turn) : Type 0 where
  pub done : Turns
  pub is : now ≡ turns_view g number done
  pub given : IsTurn g number agrees done turn
