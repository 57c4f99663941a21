use Rattle.nm_rule.proofs.Shared.{takes_back}
use Rattle.nm_rule.proofs.standing.each_join_keeps_the_rule.Goals as goal

pub returns : goal.returns
returns c = takes_back
