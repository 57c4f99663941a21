use Rattle.nm_part_choice.proofs.Moves.{txn-one, batch-one, locked-one, cool-one}
use Rattle.nm_part_choice.proofs.Keeping.{demotion-one, inspection-one, asking-one}
use Rattle.nm_part_choice.proofs.Faults.{fault-one}
use Rattle.nm_part_choice.proofs.parts.parts_leave_no_choice.Goals as goal

pub returns-clause-transaction : goal.returns-clause-transaction
returns-clause-transaction c = txn-one

pub returns-clause-batch : goal.returns-clause-batch
returns-clause-batch c = batch-one

pub returns-clause-locked : goal.returns-clause-locked
returns-clause-locked c = locked-one

pub returns-clause-cool : goal.returns-clause-cool
returns-clause-cool c = cool-one

pub returns-clause-demotion : goal.returns-clause-demotion
returns-clause-demotion c = demotion-one

pub returns-clause-inspection : goal.returns-clause-inspection
returns-clause-inspection c = inspection-one

pub returns-clause-fault : goal.returns-clause-fault
returns-clause-fault c = fault-one

pub returns-clause-ask : goal.returns-clause-ask
returns-clause-ask c = asking-one
