-- A text has its records and no others, and they are read in one way.
use Rattle.nm_trace.proofs.OneImport.{one-import}
use Rattle.nm_trace.proofs.laws.one_import.Goals as goal

pub returns : goal.returns
returns c = one-import
