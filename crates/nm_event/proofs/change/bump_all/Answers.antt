use Rattle.std.proofs.Common.{◌+◌}
use Rattle.nm_event.proofs.Steps.{map_step}
use Rattle.nm_event.specs.After.{bumped_to}
use Rattle.nm_event.proofs.change.bump_all.Goals as goal

pub loop-i-preserved : goal.loop-i-preserved
loop-i-preserved c = rw c.bump_to.ensures (map_step (bumped_to (c.args.old + 1)) c.args.ops.now c.loop-i.ops c.loop-i.i c.index-ops-i.result c.loop-i-test.true c.loop-i.invariant)
