use Rattle.nm_part_marks.proofs.Back.{txn-back, locked-back}
use Rattle.nm_part_marks.proofs.BatchBack.{batch-back}
use Rattle.nm_part_marks.proofs.parts.parts_take_marks_back.Goals as goal

pub returns-clause-transaction : goal.returns-clause-transaction
returns-clause-transaction c = txn-back

pub returns-clause-batch : goal.returns-clause-batch
returns-clause-batch c = batch-back

pub returns-clause-locked : goal.returns-clause-locked
returns-clause-locked c = locked-back
