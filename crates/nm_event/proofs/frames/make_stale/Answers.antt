use Rattle.nm_event.proofs.Steps.{map_step}
use Rattle.std.proofs.Common.{false}
use Rattle.nm_event.specs.After.{stale}
use Rattle.nm_event.proofs.frames.make_stale.Goals as goal

pub loop-i-preserved : goal.loop-i-preserved
loop-i-preserved c = map_step stale c.args.peeked.now c.loop-i.peeked c.loop-i.i (record { vpage = 0; stamp = 0; fresh = false }) c.loop-i-test.true c.loop-i.invariant
