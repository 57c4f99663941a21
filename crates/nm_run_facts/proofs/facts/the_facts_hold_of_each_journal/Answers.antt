-- A journal that holds tells of a run of its script.
use Rattle.nm_run_facts.proofs.RunHolding.{journal_holds}
use Rattle.nm_run_facts.proofs.facts.the_facts_hold_of_each_journal.Goals as goal

pub returns : goal.returns
returns c = journal_holds
