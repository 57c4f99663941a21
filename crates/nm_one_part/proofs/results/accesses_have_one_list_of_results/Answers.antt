use Rattle.nm_one_part.proofs.Followed.{one-list-of-results}
use Rattle.nm_one_part.proofs.results.accesses_have_one_list_of_results.Goals as goal

pub returns : goal.returns
returns c = one-list-of-results
