-- The facts of its events, and of its end.
use Rattle.nm_top.proofs.Simulations.{HoldsOfSimulation-run}
use Rattle.nm_top.proofs.facts.the_facts_hold_of_each_simulation.Goals as goal

pub returns : goal.returns
returns c = HoldsOfSimulation-run
