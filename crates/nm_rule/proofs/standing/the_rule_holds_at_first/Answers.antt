use Rattle.nm_rule.proofs.Shared.{begins}
use Rattle.nm_rule.proofs.standing.the_rule_holds_at_first.Goals as goal

pub returns : goal.returns
returns c = begins
