use Rattle.nm_view.proofs.Places.{found_some}
use Rattle.nm_view.proofs.keyed.is_among.Goals as goal

pub returns : goal.returns
returns g c = rw c.is_some.ensures (found_some g.T.Keyed.key c.args.key c.args.items.now c.place.result c.place.ensures)
