use Rattle.nm_rule.proofs.Shared.{ends}
use Rattle.nm_rule.proofs.standing.the_end_is_that_of_a_run.Goals as goal

pub returns : goal.returns
returns c = ends
