use Rattle.nm_report.proofs.Filtered.{counts-free, counts-filters}
use Rattle.nm_report.proofs.roles.counts_filters.Goals as goal

pub returns-clause-free : goal.returns-clause-free
returns-clause-free c = counts-free

pub returns-clause-each : goal.returns-clause-each
returns-clause-each c = counts-filters
