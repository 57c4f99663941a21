use Rattle.std.proofs.Common.{◌≡◌, true}
use Rattle.nm_view.specs.Operations.{are_seen}
use Rattle.nm_view.proofs.reading.are_seen.Given as goal

abbrev pub invariant-loop-cpu : goal.invariant-loop-cpu
invariant-loop-cpu l = are_seen l.cpu l.seen ≡ true
