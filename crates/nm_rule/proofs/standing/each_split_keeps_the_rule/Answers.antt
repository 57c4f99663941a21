use Rattle.nm_rule.proofs.Shared.{cuts}
use Rattle.nm_rule.proofs.standing.each_split_keeps_the_rule.Goals as goal

pub returns : goal.returns
returns c = cuts
