use Rattle.std.proofs.Common.{◌≡◌, ◌<◌, ◌+◌, Some}
use Rattle.csv.specs.Reading.{Ready, default_config, source_of, strip_bom}
use Rattle.csv.specs.declared.reader.Trim.TheVariants as trim
use Rattle.nm_trace.proofs.Progress.{IsHalfRead}
use Rattle.nm_trace.proofs.importing.read_records.Given as goal

abbrev pub invariant-loop-item : goal.invariant-loop-item
invariant-loop-item l = record {
  trim : l.item-iterator.rdr.trim ≡ trim.None;
  ready : Ready l.item-iterator.rdr;
  left : 0 < l.item-iterator.left;
  config : l.item-iterator.rdr.config ≡ default_config;
  read : IsHalfRead (strip_bom l.fn.bytes) (l.fast + l.slow) l.draft l.row l.item-iterator.rdr.state (source_of (λ s. Some s.now) l.item-iterator.rdr);
}
