-- A step keeps the shape.
use Rattle.nm_world.proofs.Shapes.{ShapeLaw-moved}
use Rattle.nm_world.proofs.laws.a_step_keeps_the_shape.Goals as goal

pub returns : goal.returns
returns c = ShapeLaw-moved
