-- Each access tells what the memory has, to which the state before it is linked.
use Rattle.nm_legal.proofs.EachRun.{placed_run, legal_run}
use Rattle.nm_legal.proofs.runs.accesses_of_a_run_are_legal.Goals as goal

pub returns-clause-placed : goal.returns-clause-placed
returns-clause-placed c = placed_run

pub returns-clause-legal : goal.returns-clause-legal
returns-clause-legal c = legal_run
