-- What the frame law and the shadow law take from the other groups, of the world before a step.
use Rattle.nm_base.specs.Geometry.{Geometry, IsGeometry}
use Rattle.nm_world.specs.Worlds.{World}
use Rattle.nm_world.specs.Sights.{sight_of}
use Rattle.nm_world.specs.LockLaw.{LockLaw}
use Rattle.nm_world.specs.CacheLaw.{CacheLaw}
use Rattle.nm_world.specs.CopyLaw.{CopyLaw}
use Rattle.nm_world.specs.FrameLaw.{FrameLaw}
use Rattle.nm_world.specs.Bounds.{HasBounds}

-- for frames: what operations know is so, copies are true, and words name frames in range
pub record HasFrameFacts (g : Geometry) (m : World) : Type 0 where
  pub geometry : IsGeometry g
  pub locks : LockLaw g m
  pub copies : CopyLaw g (sight_of g m)
  pub bounds : HasBounds g m

-- for shadows: the same, what processors cache is so, and each frame has one role
pub record HasShadowFacts (g : Geometry) (m : World) : Type 0 where
  pub geometry : IsGeometry g
  pub locks : LockLaw g m
  pub caches : CacheLaw g m
  pub copies : CopyLaw g (sight_of g m)
  pub frames : FrameLaw g (sight_of g m)
  pub bounds : HasBounds g m
