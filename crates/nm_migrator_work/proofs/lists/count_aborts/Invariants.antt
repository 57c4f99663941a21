use Rattle.std.proofs.Common.{◌≡◌, drop, length}
use Rattle.nm_migrator_work.specs.Planned.{aborts_with}
use Rattle.nm_migrator_work.proofs.lists.count_aborts.Given as goal

abbrev pub invariant-loop-index : goal.invariant-loop-index
invariant-loop-index l = record { all : aborts_with (drop l.index l.pieces) (drop l.index l.ends) l.aborts ≡ aborts_with l.pieces l.ends l.initial.aborts; size : length l.aborts ≡ length l.initial.aborts }
