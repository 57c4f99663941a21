use Rattle.nm_pending.proofs.Fitting.{fits-lane}
use Rattle.nm_pending.proofs.lane.the_lane_pending_is_first_in_first_out.Goals as goal

pub returns : goal.returns
returns c = fits-lane
