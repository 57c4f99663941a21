-- The groups of facts that every permitted step keeps, all together; and when an action can be made in a world.
use Rattle.std.specs.Prelude.{ℕ}
use Rattle.nm_base.specs.Geometry.{Geometry}
use Rattle.nm_action.specs.declared.action.Action.{Action}
use Rattle.nm_view.specs.Opening.{IsActor}
use Rattle.nm_permit.specs.Permitted.{Allowed}
use Rattle.nm_event.specs.Fitting.{Fits}
use Rattle.nm_world.specs.Worlds.{World, reply_in}
use Rattle.nm_world.specs.Sights.{sight_of}
use Rattle.nm_world.specs.ShapeLaw.{ShapeLaw}
use Rattle.nm_world.specs.LockLaw.{LockLaw}
use Rattle.nm_world.specs.CacheLaw.{CacheLaw}
use Rattle.nm_world.specs.CopyLaw.{CopyLaw}
use Rattle.nm_world.specs.ShadowLaw.{ShadowLaw}
use Rattle.nm_world.specs.FrameLaw.{FrameLaw}
use Rattle.nm_world.specs.Bounds.{HasBounds}

-- the six groups, and the bounds that they rest on
pub record AreAll (g : Geometry) (m : World) : Type 0 where
  pub shape : ShapeLaw g m
  pub locks : LockLaw g m
  pub caches : CacheLaw g m
  pub copies : CopyLaw g (sight_of g m)
  pub shadows : ShadowLaw g (sight_of g m)
  pub frames : FrameLaw g (sight_of g m)
  pub bounds : HasBounds g m

-- an actor's action can be made: each view has the shape, there is such an actor, its view permits the action, and the reply
-- fits
pub record IsReady (g : Geometry) (m : World) (a : ℕ) (action : Action) : Type 0 where
  pub shaped : ShapeLaw g m
  pub actor : IsActor g a
  pub allowed : Allowed g (m.view a) action
  pub fits : Fits g (m.view a) action (reply_in g m a action)
