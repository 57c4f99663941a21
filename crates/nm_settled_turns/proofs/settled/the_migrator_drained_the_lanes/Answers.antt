use Rattle.nm_settled_turns.proofs.Parts.{drained}
use Rattle.nm_settled_turns.proofs.settled.the_migrator_drained_the_lanes.Goals as goal

pub returns : goal.returns
returns c = drained
