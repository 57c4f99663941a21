-- Each ClearDirty opens a transaction, which each step but its last leaves open.
use Rattle.nm_transactions.proofs.EachRun.{transactions_obey}
use Rattle.nm_transactions.proofs.runs.transactions_of_a_run_obey_the_law.Goals as goal

pub returns : goal.returns
returns c = transactions_obey
