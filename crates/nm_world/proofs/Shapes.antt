-- That each permitted step whose reply fits keeps the shape of views.
use Rattle.std.proofs.Common.{◌≡◌, ℕ, ◌∙◌}
use Rattle.nm_base.specs.Geometry.{Geometry, IsGeometry}
use Rattle.nm_action.specs.declared.action.Action.{Action}
use Rattle.nm_view.specs.Views.{View}
use Rattle.nm_view.specs.Opening.{opening, IsActor}
use Rattle.nm_event.specs.After.{after_of}
use Rattle.nm_shape.specs.Shape.{HasShape}
use Rattle.nm_shape.proofs.Shaped.{shape_after}
use Rattle.nm_core.proofs.Naming.{HasCounted-after}
use Rattle.nm_world.specs.Worlds.{World, moved, reply_in}
use Rattle.nm_world.specs.ShapeLaw.{ShapeLaw}
use Rattle.nm_world.specs.Laws.{IsReady}
use Rattle.nm_world.proofs.Writing.{each_view}

pub ShapeLaw-moved : (g : Geometry) (m : World) (a : ℕ) (action : Action) → IsGeometry g → IsReady g m a action → ShapeLaw g (moved g m a action)
ShapeLaw-moved g m a action is r =
    let new : View = after_of g (m.view a) action (reply_in g m a action) in
    let number : new.number ≡ a = (HasCounted-after g (m.view a) action (reply_in g m a action) r.fits.kind).number ∙ r.shaped.number a in
    record {
      number = each_view (λ c v. v.number ≡ c) a new m.view number (λ c _. r.shaped.number c);
      shape = each_view (λ c v. IsActor g c → HasShape g v) a new m.view
          (λ there. shape_after g (m.view a) action (reply_in g m a action) is (r.shaped.shape a there) r.allowed r.fits)
          (λ c _. r.shaped.shape c);
      nobody = each_view (λ c v. ¬ IsActor g c → v ≡ opening g c) a new m.view (λ out. absurd (out r.actor)) (λ c _. r.shaped.nobody c);
    }
