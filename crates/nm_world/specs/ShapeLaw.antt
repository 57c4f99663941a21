-- The shape of views.
use Rattle.std.specs.Prelude.{◌≡◌, ℕ}
use Rattle.nm_base.specs.Geometry.{Geometry}
use Rattle.nm_view.specs.Opening.{opening, IsActor}
use Rattle.nm_shape.specs.Shape.{HasShape}
use Rattle.nm_world.specs.Worlds.{World}

-- each view has the number of its actor, and the shape; a number of no actor has an opening view
pub record ShapeLaw (g : Geometry) (m : World) : Type 0 where
  pub number : (a : ℕ) → (m.view a).number ≡ a
  pub shape : (a : ℕ) → IsActor g a → HasShape g (m.view a)
  pub nobody : (a : ℕ) → ¬ IsActor g a → m.view a ≡ opening g a
