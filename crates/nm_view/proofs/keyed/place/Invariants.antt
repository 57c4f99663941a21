use Rattle.std.proofs.Common.{◌≡◌, take, None}
use Rattle.nm_view.specs.Lists.{find}
use Rattle.nm_view.proofs.keyed.place.Given as goal

abbrev pub invariant-loop-i : goal.invariant-loop-i
invariant-loop-i g l = find g.T.Keyed.key l.key (take l.i l.items) ≡ None
