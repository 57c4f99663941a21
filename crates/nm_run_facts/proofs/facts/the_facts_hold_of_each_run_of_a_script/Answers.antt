-- The facts of the events, and of the end.
use Rattle.nm_run_facts.proofs.RunHolding.{run_holds}
use Rattle.nm_run_facts.proofs.facts.the_facts_hold_of_each_run_of_a_script.Goals as goal

pub returns : goal.returns
returns c = run_holds
