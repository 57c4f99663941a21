use Rattle.std.proofs.Common.{refl}
use Rattle.nm_words.specs.Exchanges.{changed}
use Rattle.nm_rule.proofs.Moved.{moves}
use Rattle.nm_rule.proofs.standing.each_permitted_step_keeps_the_rule.Goals as goal

pub returns : goal.returns
returns c = λ g slots seat me place a change is. moves g slots seat me a place change (changed change) is (λ n. refl)
