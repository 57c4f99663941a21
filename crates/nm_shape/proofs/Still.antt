-- A step that answers Busy or Lost changes nothing of the view.
use Rattle.std.proofs.Common.{◌≡◌, ℕ, refl}
use Rattle.nm_base.specs.Geometry.{Geometry}
use Rattle.nm_action.specs.declared.action.Reply.TheVariants.{Busy, Lost}
use Rattle.nm_action.specs.declared.action.Action.{Action}
use Rattle.nm_action.specs.declared.action.Action.TheVariants.{Load}
use Rattle.nm_view.specs.Views.{View}
use Rattle.nm_event.specs.After.{after_of}

pub busy_still : (g : Geometry) (view : View) (action : Action) (word : ℕ) → after_of g view action (Busy word) ≡ view
busy_still g view (Load v w) n = refl
busy_still g view action n = refl

pub lost_still : (g : Geometry) (view : View) (action : Action) (word : ℕ) → after_of g view action (Lost word) ≡ view
lost_still g view (Load v w) n = refl
lost_still g view action n = refl
