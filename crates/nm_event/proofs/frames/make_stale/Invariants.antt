use Rattle.std.proofs.Common.{◌≡◌, ◌++◌, map, take, drop}
use Rattle.nm_event.specs.After.{stale}
use Rattle.nm_event.proofs.frames.make_stale.Given as goal

abbrev pub invariant-loop-i : goal.invariant-loop-i
invariant-loop-i l = l.peeked ≡ map (stale) (take l.i l.fn.peeked) ++ drop l.i l.fn.peeked
