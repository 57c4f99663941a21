use Rattle.std.proofs.Common.{◌≡◌, drop}
use Rattle.nm_tally.specs.Counts.{zero_tally}
use Rattle.nm_migrator_work.specs.Ends.{pieces_counts}
use Rattle.nm_migrator_work.proofs.ends.pieces_counts.Given as goal

abbrev pub invariant-loop-index : goal.invariant-loop-index
invariant-loop-index l = pieces_counts l.tally (drop l.index l.ends) ≡ pieces_counts zero_tally l.ends
