use Rattle.std.proofs.Common.{◌≡◌, ◌+◌, ◌++◌, map, take, drop}
use Rattle.nm_event.specs.After.{bumped_to}
use Rattle.nm_event.proofs.change.bump_all.Given as goal

abbrev pub invariant-loop-i : goal.invariant-loop-i
invariant-loop-i l = l.ops ≡ map (bumped_to (l.old + 1)) (take l.i l.fn.ops) ++ drop l.i l.fn.ops
