-- The vector's front is what the source lost in the reads so far, and grows by at least one byte in each turn.
use Rattle.std.proofs.Common.{◌≡◌, ◌+◌, ◌-◌, ◌≤◌, take, vec_len}
use Rattle.std.specs.Io.KnownBytes.{Consumes}
use Rattle.nm_io.specs.Source.{GivesInReads}
use Rattle.nm_io.proofs.sources.read_all.Given as goal

abbrev pub invariant-loop-taken : goal.invariant-loop-taken
invariant-loop-taken g l = record {
  within : l.taken ≤ vec_len l.bytes;
  most : vec_len l.bytes ≤ 16777216 + 1;
  faults : g.S.Source.faults l.src ≡ g.S.Source.faults l.initial.src;
  lost : Consumes (g.S.Source.left l.initial.src) (g.S.Source.left l.src) (take l.taken l.bytes.items);
  given : GivesInReads g.S.Source.read_gives l.initial.src (take l.taken l.bytes.items) l.src;
}

abbrev pub decreases-loop-taken : goal.decreases-loop-taken
decreases-loop-taken g l = 16777216 + 1 - l.taken
