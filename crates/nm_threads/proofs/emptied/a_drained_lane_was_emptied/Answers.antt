use Rattle.nm_threads.proofs.Emptying.{drained-taken}
use Rattle.nm_threads.proofs.emptied.a_drained_lane_was_emptied.Goals as goal

pub returns : goal.returns
returns g c = drained-taken
