use Rattle.std.proofs.Common.{◌≡◌, ◌++◌, map, take, drop}
use Rattle.nm_event.specs.After.{seen_at}
use Rattle.nm_event.proofs.change.see_all.Given as goal

abbrev pub invariant-loop-i : goal.invariant-loop-i
invariant-loop-i l = l.ops ≡ map (seen_at l.cpu l.word) (take l.i l.fn.ops) ++ drop l.i l.fn.ops
