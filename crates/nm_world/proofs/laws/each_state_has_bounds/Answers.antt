-- Each state has the bounds.
use Rattle.nm_world.proofs.Bounds.{HasBounds-world_of}
use Rattle.nm_world.proofs.laws.each_state_has_bounds.Goals as goal

pub returns : goal.returns
returns c = HasBounds-world_of
