-- Some number of the bytes is written, and the rest is left.
use Rattle.std.proofs.Common.{◌≡◌, ℕ, ◌≤◌, length, take, drop}
use Rattle.std.specs.Io.KnownBytes.{Appends}
use Rattle.nm_io.proofs.Turns.{HasWritten}
use Rattle.nm_io.proofs.sinks.write_all.Given as goal

abbrev pub invariant-loop-rest : goal.invariant-loop-rest
invariant-loop-rest g l = record {
  faults : g.K.Sink.faults l.snk ≡ g.K.Sink.faults l.initial.snk;
  front : (done : ℕ) × (done ≤ length l.bytes) × (l.rest ≡ drop done l.bytes)
      × Appends (g.K.Sink.held l.initial.snk) (g.K.Sink.held l.snk) (take done l.bytes);
  writes : HasWritten g.K.Sink.write_takes l.initial.snk l.bytes l.snk l.rest;
}

abbrev pub decreases-loop-rest : goal.decreases-loop-rest
decreases-loop-rest g l = length l.rest
