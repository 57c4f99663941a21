use Rattle.std.proofs.Common.{◌≤◌, ◌+◌, length}
use Rattle.nm_journal_text.specs.Following.{IsTakenTo}
use Rattle.nm_journal.proofs.reader.follow.Given as goal

abbrev pub invariant-loop-rest : goal.invariant-loop-rest
invariant-loop-rest l = record {
  taken : IsTakenTo l.script l.text l.rest l.count l.state l.cursors;
  short : l.count + length l.rest ≤ length l.text;
}

abbrev pub decreases-loop-rest : goal.decreases-loop-rest
decreases-loop-rest l = length l.rest
