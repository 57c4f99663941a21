use Rattle.std.proofs.Common.{◌≡◌, ◌≤◌, ◌++◌, drop, length}
use Rattle.nm_migrator_work.specs.Planned.{again_of}
use Rattle.nm_migrator_work.proofs.lists.again_of.Given as goal

abbrev pub invariant-loop-index : goal.invariant-loop-index
invariant-loop-index l = record { all : l.again ++ again_of (drop l.index l.pieces) (drop l.index l.ends) ≡ again_of l.pieces l.ends; few : length l.again ≤ l.index }
