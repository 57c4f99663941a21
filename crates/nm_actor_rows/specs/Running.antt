-- An actor that runs a part to its end, and then gives End.
use Rattle.std.specs.Prelude.{◌≡◌, ℕ, [], ◌∷◌, Option, Some, None}
use Rattle.nm_base.specs.Geometry.{Geometry}
use Rattle.nm_action.specs.declared.action.Action.{Action}
use Rattle.nm_action.specs.declared.tally.Tally.{Tally}
use Rattle.nm_action.specs.declared.turn.Step.{Step}
use Rattle.nm_action.specs.declared.turn.Step.TheVariants.{Do, Over}
use Rattle.nm_action.specs.declared.turn.Turn.{Turn}
use Rattle.nm_action.specs.declared.turn.Turn.TheVariants as turns
use Rattle.nm_action.specs.declared.turn.Heard.TheVariants.{Answer}
use Rattle.nm_action.specs.Own.{Own}
use Rattle.nm_view.specs.Views.{View}
use Rattle.nm_view.specs.Opening.{opening}
use Rattle.nm_part.specs.Parts.{IsPartStep}
use Rattle.nm_actor.specs.Turns.{Turns}

-- the turns in which an own list was done
abbrev pub turns_of : Own → Turns
turns_of [] = []
turns_of (e ∷ own) = (turns.Do e.0, Answer e.1) ∷ turns_of own

-- the turn in which a step of a part is given
abbrev pub turn_of : {O : Type 0} → Step O → Turn
turn_of (Do action) = turns.Do action
turn_of (Over outcome) = turns.End

-- it has given no turn, and its part is new and may begin
pub record IsWaiting (new : Type 0) (may_begin : Geometry → View → Type 0) (g : Geometry) (number : ℕ) (done : Turns) : Type 0 where
  pub part : new
  pub begin : may_begin g (opening g number)
  pub none : done ≡ []

-- it did the list of its part so far, and gave the step of the part that comes then
pub record IsAtStep {O : Type 0} (awaits : Geometry → View → Own → Action → Type 0) (shape : Geometry → Own → O → Type 0) (leaves : Geometry → View → O → View → Type 0) (ended : Geometry → Own → O → Type 0) (g : Geometry) (number : ℕ) (done : Turns) (turn : Turn) : Type 0 where
  pub own : Own
  pub step : Step O
  pub list : done ≡ turns_of own
  pub is : turn ≡ turn_of step
  pub given : IsPartStep awaits shape leaves ended g (opening g number) own step

-- what it agrees with, by the turn that it gave last
abbrev pub AgreesBy : Type 0 → (Turn → Type 0) → Option Turn → Type 0
AgreesBy waiting running None = waiting
AgreesBy waiting running (Some turn) = running turn

-- it keeps the turn that it gave last
pub record IsAgreedOn (waiting : Type 0) (running : Turn → Type 0) (kept last : Option Turn) : Type 0 where
  pub same : kept ≡ last
  pub by : AgreesBy waiting running last

-- nothing was counted
abbrev pub no_counts : Tally
no_counts = record { demand = 0; alias = 0; hint = 0; shadow = 0; marked = 0; spilled = 0; cold = 0; committed = 0; moved = 0; noframe = 0; gone = 0; worn = 0; aborted = 0; remapped = 0; copied = 0; words = 0; flushes = 0; reclaimed = 0 }
