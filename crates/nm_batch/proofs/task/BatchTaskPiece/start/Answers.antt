use Rattle.std.proofs.Common.{[]}
use Rattle.nm_batch.proofs.Tasks.{batch-asked}
use Rattle.nm_batch.proofs.task.BatchTaskPiece.start.Goals as goal

pub returns-clause-step : goal.returns-clause-step
returns-clause-step c = λ g view may. batch-asked _ _ g view [] c.start.result (c.start.ensures.step g view may)
