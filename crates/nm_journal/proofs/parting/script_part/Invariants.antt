use Rattle.std.proofs.Common.{length}
use Rattle.nm_journal.specs.Parting.{IsPassedTo}
use Rattle.nm_journal.proofs.parting.script_part.Given as goal

abbrev pub invariant-loop-rest : goal.invariant-loop-rest
invariant-loop-rest l = IsPassedTo l.bytes l.rest l.lines

abbrev pub decreases-loop-rest : goal.decreases-loop-rest
decreases-loop-rest l = length l.rest
