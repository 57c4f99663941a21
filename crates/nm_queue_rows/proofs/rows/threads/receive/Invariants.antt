use Rattle.nm_queue_rows.specs.Passes.{KeepsPasses}
use Rattle.nm_queue_rows.proofs.rows.threads.receive.Given as goal

abbrev pub invariant-loop-place : goal.invariant-loop-place
invariant-loop-place g l = KeepsPasses l.fn.pass l.pass
