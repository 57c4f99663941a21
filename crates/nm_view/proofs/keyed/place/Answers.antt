use Rattle.std.proofs.Common.{arith}
use Rattle.nm_view.proofs.Places.{find-more}
use Rattle.nm_view.proofs.keyed.place.Goals as goal

pub loop-i-preserved : goal.loop-i-preserved
loop-i-preserved g c = grind (arith, find-more g.T.Keyed.key c.args.key c.loop-i.i c.args.items.now c.index-items-i.result)
