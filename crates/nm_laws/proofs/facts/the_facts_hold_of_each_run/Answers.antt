-- Each fact is proved of every run in a crate below.
use Rattle.nm_laws.proofs.Holding.{facts_in_run}
use Rattle.nm_laws.proofs.facts.the_facts_hold_of_each_run.Goals as goal

pub returns : goal.returns
returns c = facts_in_run
