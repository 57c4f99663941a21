-- The record of a reference is the one that it is read from.
use Rattle.csv.specs.Records.{fields_of}
use Rattle.nm_trace.proofs.Spelling.{spelled}
use Rattle.nm_trace.proofs.reading.read_reference.Goals as goal

pub returns-clause-spelled : goal.returns-clause-spelled
returns-clause-spelled c = spelled c.reference_of.result (fields_of c.args.fields.now) c.reference_of.ensures
