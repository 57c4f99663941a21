use Rattle.nm_queue_rows.specs.Passes.{KeepsPasses}
use Rattle.nm_queue_rows.proofs.rows.threads.send.Given as goal

abbrev pub invariant-loop-page : goal.invariant-loop-page
invariant-loop-page g l = KeepsPasses l.fn.pass l.pass
