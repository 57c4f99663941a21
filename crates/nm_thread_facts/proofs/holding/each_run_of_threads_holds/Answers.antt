-- The facts of its events, and the end of all actors.
use Rattle.nm_thread_facts.proofs.ThreadHolding.{threads_hold}
use Rattle.nm_thread_facts.proofs.holding.each_run_of_threads_holds.Goals as goal

pub returns : goal.returns
returns c = threads_hold
