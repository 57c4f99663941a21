use Rattle.nm_journal_text.proofs.OneVerdict.{one_wrong, apart}
use Rattle.nm_journal_text.proofs.law.one_verdict.Goals as goal

pub returns-clause-one : goal.returns-clause-one
returns-clause-one c = one_wrong

pub returns-clause-apart : goal.returns-clause-apart
returns-clause-apart c = apart
