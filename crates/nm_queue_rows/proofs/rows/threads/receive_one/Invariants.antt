use Rattle.nm_queue_rows.specs.Passes.{KeepsPasses}
use Rattle.nm_queue_rows.proofs.rows.threads.receive_one.Given as goal

abbrev pub invariant-loop : goal.invariant-loop
invariant-loop g l = (goal.iterator-loop g).can_next l.iterator' × (goal.iterator-loop g).is_finite l.iterator' × KeepsPasses l.fn.pass l.pass
