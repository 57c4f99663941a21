use Rattle.nm_event.proofs.Steps.{map_step}
use Rattle.nm_event.specs.After.{seen_at}
use Rattle.nm_event.proofs.change.see_all.Goals as goal

pub loop-i-preserved : goal.loop-i-preserved
loop-i-preserved c = rw c.see_at.ensures (map_step (seen_at c.args.cpu c.args.word) c.args.ops.now c.loop-i.ops c.loop-i.i c.index-ops-i.result c.loop-i-test.true c.loop-i.invariant)
