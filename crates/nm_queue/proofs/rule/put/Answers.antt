use Rattle.std.proofs.Common.{ℕ, subst}
use Rattle.crossbeam_queue.specs.Fifo.{Pushes}
use Rattle.crossbeam_queue.specs.Passes.{view, ruled_capacity}
use Rattle.nm_queue.specs.Passes.{PutThen}
use Rattle.nm_queue.specs.Rules.{Relates}
use Rattle.nm_queue.proofs.Keeping.{puts, saw}
use Rattle.nm_queue.proofs.rule.put.Goals as goal

pub push_as-requires-clause-rule : goal.push_as-requires-clause-rule
push_as-requires-clause-rule g c = let k = view c.args.pass.now in let x = c.args.page in
    (subst (λ (n : ℕ). Pushes Relates (ruled_capacity c.args.queue.now) c.args.pass.now.id k x (PutThen n x k)) c.requires.room (puts _ _ k x c.requires.live), saw _ k c.requires.live)
