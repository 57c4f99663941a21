-- What a clause reads of std's reader as a source and std's writer as a sink.
use Rattle.std.specs.Prelude.{◌≡◌, ℕ, List, [], Option, Result, MatchResult}
use Rattle.std.specs.Io.KnownBytes.{Consumes, IsAtEnd, Keeps, WriteAppends}
use Rattle.nm_io.specs.Count.{next_count}
use Rattle.nm_io.specs.declared.faults.Failed.{Failed}
use Rattle.nm_io.specs.declared.adapters.StdSource.{StdSource}
use Rattle.nm_io.specs.declared.adapters.StdSink.{StdSink}

-- the reader that the source reads from
abbrev pub source_reader : {R : Type 0} → StdSource R → R
source_reader s = s.reader

-- how many reads failed
abbrev pub source_faults : {R : Type 0} → StdSource R → ℕ
source_faults s = s.faults

-- the writer that the sink writes to
abbrev pub sink_writer : {W : Type 0} → StdSink W → W
sink_writer s = s.writer

-- how many writes failed
abbrev pub sink_faults : {W : Type 0} → StdSink W → ℕ
sink_faults s = s.faults

-- the count rises by one on an error, and stays otherwise
abbrev pub CountsErrors : {T E : Type 0} → ℕ → ℕ → Result T E → Type 0
CountsErrors old new result = MatchResult result (λ _. new ≡ old) (λ _. new ≡ next_count old)

-- a read of the source: an error is counted, and takes nothing of what the reader tells; else its bytes come off the front
-- of that, and are none only at the end
pub record SourceGives {R : Type 0} (remaining : R → Option (List ℕ)) (old : StdSource R) (result : Result (List ℕ) Failed) (new : StdSource R) : Type 0 where
  pub counts : CountsErrors (source_faults old) (source_faults new) result
  pub bytes : MatchResult result (λ bytes. Consumes (remaining (source_reader old)) (remaining (source_reader new)) bytes × (bytes ≡ [] → IsAtEnd (remaining (source_reader new))))
      (λ _. Keeps (remaining (source_reader old)) (remaining (source_reader new)))

-- a write to the sink: an error is counted, and the writer takes nothing; else it takes the front of the bytes
pub record SinkTakes {W : Type 0} (contents : W → Option (List ℕ)) (old : StdSink W) (from : List ℕ) (result : Result ℕ Failed) (new : StdSink W) : Type 0 where
  pub counts : CountsErrors (sink_faults old) (sink_faults new) result
  pub bytes : WriteAppends (contents (sink_writer old)) (contents (sink_writer new)) result from
