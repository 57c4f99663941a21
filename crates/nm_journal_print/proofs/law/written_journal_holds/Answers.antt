use Rattle.nm_journal_print.proofs.Holding.{journal_holds}
use Rattle.nm_journal_print.proofs.law.written_journal_holds.Goals as goal

pub returns : goal.returns
returns c = journal_holds
