-- Its events are a run, and who has ended has acknowledged it.
use Rattle.nm_sim_journal.proofs.SimHolding.{journal_holds}
use Rattle.nm_sim_journal.proofs.law.the_journal_of_each_simulation_holds.Goals as goal

pub returns : goal.returns
returns c = journal_holds
