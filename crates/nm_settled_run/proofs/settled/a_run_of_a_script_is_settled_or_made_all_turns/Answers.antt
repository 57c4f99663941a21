use Rattle.nm_settled_run.proofs.Settling.{settled-run, unsettled-run}
use Rattle.nm_settled_run.proofs.settled.a_run_of_a_script_is_settled_or_made_all_turns.Goals as goal

pub returns-clause-ended : goal.returns-clause-ended
returns-clause-ended c = settled-run

pub returns-clause-unsettled : goal.returns-clause-unsettled
returns-clause-unsettled c = unsettled-run
