use Rattle.nm_pending.proofs.Leaving.{drained-fits}
use Rattle.nm_pending.proofs.lane.a_drained_lane_is_left_empty.Goals as goal

pub returns : goal.returns
returns c = drained-fits
