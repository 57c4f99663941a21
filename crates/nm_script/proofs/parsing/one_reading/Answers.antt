use Rattle.nm_script.proofs.OneReading.{one-reading, one-text}
use Rattle.nm_script.proofs.parsing.one_reading.Goals as goal

pub returns-clause-reading : goal.returns-clause-reading
returns-clause-reading c = one-reading

pub returns-clause-text : goal.returns-clause-text
returns-clause-text c = one-text
