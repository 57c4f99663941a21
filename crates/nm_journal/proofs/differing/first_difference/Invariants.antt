use Rattle.std.proofs.Common.{◌≤◌, ◌+◌, length}
use Rattle.nm_journal_text.specs.Differing.{AreSameTo}
use Rattle.nm_journal.proofs.differing.first_difference.Given as goal

abbrev pub invariant-loop-tail : goal.invariant-loop-tail
invariant-loop-tail l = record {
  same : AreSameTo l.told l.text l.tail l.rest l.count;
  short : l.count + length l.rest ≤ length l.text;
}

abbrev pub decreases-loop-tail : goal.decreases-loop-tail
decreases-loop-tail l = length l.tail
