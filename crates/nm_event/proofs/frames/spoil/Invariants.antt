use Rattle.std.proofs.Common.{◌≡◌, ◌++◌, map, take, drop}
use Rattle.nm_event.specs.After.{spoiled_frame}
use Rattle.nm_event.proofs.frames.spoil.Given as goal

abbrev pub invariant-loop-i : goal.invariant-loop-i
invariant-loop-i l = l.owned ≡ map (spoiled_frame l.page) (take l.i l.fn.owned) ++ drop l.i l.fn.owned
