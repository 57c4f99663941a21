use Rattle.std.proofs.Common.{subst, sym}
use Rattle.std.specs.Option.{IsSome}
use Rattle.nm_queue.specs.Passes.{PassState}
use Rattle.nm_queue.proofs.Joining.{makes}
use Rattle.nm_queue.proofs.page_queue.PageQueue.pass.Goals as goal

pub another-pass-requires-clause-rule : goal.another-pass-requires-clause-rule
another-pass-requires-clause-rule g c = makes _ _ c.first.invariant.1 (subst (λ (s : PassState). IsSome s.known.made) (sym c.first.view_is) c.requires.first)
