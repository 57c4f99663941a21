use Rattle.std.proofs.Common.{◌≡◌, ◌≤◌, ◌++◌, length, drop}
use Rattle.nm_txn.specs.Batches.{ends_of}
use Rattle.nm_batch.proofs.batch.ends_of.Given as goal

abbrev pub invariant-loop-index : goal.invariant-loop-index
invariant-loop-index l = record { whole : l.ends ++ ends_of (drop l.index l.prepared) (drop l.next l.decided) ≡ ends_of l.prepared l.decided; long : length l.ends ≡ l.index; few : l.next ≤ l.index }
