-- A part that is driven to its end by a stepper.
use Rattle.std.specs.Prelude.{◌≡◌, ◌++◌}
use Rattle.nm_base.specs.Geometry.{Geometry}
use Rattle.nm_action.specs.declared.action.Action.{Action}
use Rattle.nm_action.specs.declared.turn.Step.{Step}
use Rattle.nm_view.specs.Views.{View}
use Rattle.nm_action.specs.Own.{Own}
use Rattle.nm_event.specs.After.{view_after}
use Rattle.nm_part.specs.Parts.{IsPartStep}
use Rattle.nm_actor.specs.Chairs.{ChairState}

-- the chair after an own list more
abbrev pub driven : {N : Type 0} → Own → ChairState N → ChairState N
driven own c = record c { own = c.own ++ own; view = view_after c.geometry c.view own }

-- the chair did the list of a part so far, and the part has given this step
pub record IsDriving {N O : Type 0} (awaits : Geometry → View → Own → Action → Type 0) (shape : Geometry → Own → O → Type 0) (leaves : Geometry → View → O → View → Type 0) (ended : Geometry → Own → O → Type 0) (old new : ChairState N) (step : Step O) : Type 0 where
  pub own : Own
  pub is : new ≡ driven own old
  pub given : IsPartStep awaits shape leaves ended old.geometry old.view own step

-- the chair did a finished list of a part, which shows the outcome, the part left this view, and it is in the state in which
-- it ends; all else of the chair is as before
pub record IsDriven {N O : Type 0} (shape : Geometry → Own → O → Type 0) (leaves : Geometry → View → O → View → Type 0) (ended : Geometry → Own → O → Type 0) (old new : ChairState N) (outcome : O) : Type 0 where
  pub own : Own
  pub is : new ≡ driven own old
  pub shown : shape old.geometry own outcome
  pub left : leaves old.geometry old.view outcome (view_after old.geometry old.view own)
  pub over : ended old.geometry own outcome
