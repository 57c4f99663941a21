-- A step of a state is the step of its world.
use Rattle.nm_world.proofs.Bridge.{world_of-step}
use Rattle.nm_world.proofs.laws.a_step_moves_the_world.Goals as goal

pub returns : goal.returns
returns c = world_of-step
