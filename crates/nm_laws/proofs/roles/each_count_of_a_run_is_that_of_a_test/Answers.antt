-- Every frame passes one of the tests.
use Rattle.nm_laws.proofs.OneRole.{counts_in_run}
use Rattle.nm_laws.proofs.roles.each_count_of_a_run_is_that_of_a_test.Goals as goal

pub returns : goal.returns
returns c = counts_in_run
