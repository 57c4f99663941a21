use Rattle.std.proofs.Common.{◌≡◌, ◌≤◌, ◌+◌, length}
use Rattle.nm_text.specs.Fields.{lines_of}
use Rattle.nm_script.specs.Told.{nothing}
use Rattle.nm_script.specs.Holds.{IsToldSoFar}
use Rattle.nm_script.specs.Reading.{told_after}
use Rattle.nm_script.proofs.parsing.read_lines.Given as goal

abbrev pub invariant-loop-rest : goal.invariant-loop-rest
invariant-loop-rest l = record {
  told : IsToldSoFar l.draft;
  same : told_after l.draft (l.line + 1) (lines_of l.rest) ≡ told_after nothing 1 (lines_of l.bytes);
  count : l.line + length (lines_of l.rest) ≡ length (lines_of l.bytes);
  short : l.line + length l.rest ≤ length l.bytes;
}

abbrev pub decreases-loop-rest : goal.decreases-loop-rest
decreases-loop-rest l = length l.rest
