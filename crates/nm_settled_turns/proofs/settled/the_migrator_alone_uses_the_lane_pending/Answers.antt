use Rattle.nm_settled_turns.proofs.Parts.{others-off}
use Rattle.nm_settled_turns.proofs.settled.the_migrator_alone_uses_the_lane_pending.Goals as goal

pub returns : goal.returns
returns c = others-off
