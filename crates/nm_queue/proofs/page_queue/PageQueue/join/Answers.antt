use Rattle.std.proofs.Common.{ap, ◌∙◌}
use Rattle.nm_queue.specs.Passes.{Known}
use Rattle.nm_queue.proofs.Joining.{joins, wholes}
use Rattle.nm_queue.proofs.page_queue.PageQueue.join.Goals as goal

pub absorb-requires-clause-rule : goal.absorb-requires-clause-rule
absorb-requires-clause-rule g c = joins _ _ _ _ c.into.invariant.1 c.other.invariant.1

pub learn_as-requires-clause-rule : goal.learn_as-requires-clause-rule
learn_as-requires-clause-rule g c = wholes _ _ (ap (λ (k : Known). k.live) c.absorb.ensures.rule ∙ c.into.invariant.1)
