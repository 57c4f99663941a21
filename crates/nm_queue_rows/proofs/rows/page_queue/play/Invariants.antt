use Rattle.nm_queue_rows.specs.Passes.{KeepsPasses}
use Rattle.nm_queue_rows.proofs.rows.page_queue.play.Given as goal

abbrev pub invariant-loop-row : goal.invariant-loop-row
invariant-loop-row g l = KeepsPasses l.fn.pass l.pass
