-- What was read, and what became of the script, decides the answer.
use Rattle.nm_answer.proofs.Causes.{IsScriptCommand-script, IsScriptCommand-refused}
use Rattle.nm_top.specs.Output.{IsJournalOf}
use Rattle.nm_top.proofs.journal.journal_call.Goals as goal

pub returns-in-Ok : goal.returns-in-Ok
returns-in-Ok g c = IsScriptCommand-script _ _ IsJournalOf _ _ _ _ _ _ c.in-Ok.ensures.reading c.write_journal.ensures

pub returns-in-Err : goal.returns-in-Err
returns-in-Err g c = IsScriptCommand-refused _ _ IsJournalOf _ _ _ _ c.in-Err.ensures.reading
