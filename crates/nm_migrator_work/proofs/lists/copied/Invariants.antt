use Rattle.std.proofs.Common.{◌≡◌, ◌++◌, drop, length}
use Rattle.nm_migrator_work.proofs.lists.copied.Given as goal

abbrev pub invariant-loop-index : goal.invariant-loop-index
invariant-loop-index l = record { all : l.copy ++ drop l.index l.list ≡ l.list; size : length l.copy ≡ l.index }
