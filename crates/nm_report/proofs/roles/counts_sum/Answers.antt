use Rattle.nm_report.proofs.Counts.{counts-tier}
use Rattle.nm_report.proofs.roles.counts_sum.Goals as goal

pub returns : goal.returns
returns c = counts-tier c.args.g.now c.args.end.now c.args.tier c.requires.room c.requires.exists
