-- All the groups hold at first, and after each step.
use Rattle.nm_runs.proofs.EachRun.{all_in_run}
use Rattle.nm_runs.proofs.runs.each_state_of_a_run_is_lawful.Goals as goal

pub returns : goal.returns
returns c = all_in_run
