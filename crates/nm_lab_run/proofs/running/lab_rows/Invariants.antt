use Rattle.std.proofs.Common.{take}
use Rattle.nm_lab_run.specs.LabRuns.{AreRowsOf}
use Rattle.nm_lab_run.proofs.running.lab_rows.Given as goal

abbrev pub invariant-loop-retry : goal.invariant-loop-retry
invariant-loop-retry l = AreRowsOf l.fn.script (take l.retry-index l.retries) l.rows.items
