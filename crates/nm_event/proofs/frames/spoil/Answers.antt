use Rattle.nm_event.proofs.Steps.{map_step}
use Rattle.nm_event.specs.After.{spoiled_frame}
use Rattle.nm_event.proofs.frames.spoil.Goals as goal

pub loop-i-preserved : goal.loop-i-preserved
loop-i-preserved c = rw c.spoiled_frame.ensures (map_step (spoiled_frame c.args.page) c.args.owned.now c.loop-i.owned c.loop-i.i _ c.loop-i-test.true c.loop-i.invariant)
