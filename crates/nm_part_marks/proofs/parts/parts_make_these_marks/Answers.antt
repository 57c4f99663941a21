use Rattle.std.proofs.Common.{refl, inr}
use Rattle.nm_marks.specs.Marks.{IsNoMark, IsPendingMark, IsCandidateMark}
use Rattle.nm_part_marks.specs.Actions.{IsNoAck}
use Rattle.nm_part_marks.proofs.Asking.{asks-actions}
use Rattle.nm_part_marks.proofs.Made.{marks-of}
use Rattle.nm_part_marks.proofs.Moves.{txn-actions, batch-actions, locked-actions, cool-actions}
use Rattle.nm_part_marks.proofs.Keeping.{demotion-actions, inspection-actions}
use Rattle.nm_part_marks.proofs.Faults.{fault-actions}
use Rattle.nm_part_marks.proofs.parts.parts_make_these_marks.Goals as goal

pub returns-clause-transaction : goal.returns-clause-transaction
returns-clause-transaction c = λ made g own end h. marks-of IsPendingMark own (txn-actions IsPendingMark IsNoAck (record { old_is = refl; new_is = refl }) made g own end h)

pub returns-clause-batch : goal.returns-clause-batch
returns-clause-batch c = λ made g own ends h. marks-of IsPendingMark own (batch-actions IsPendingMark IsNoAck (record { old_is = refl; new_is = refl }) made g own ends h)

pub returns-clause-locked : goal.returns-clause-locked
returns-clause-locked c = λ made g own end h. marks-of IsPendingMark own (locked-actions IsPendingMark IsNoAck (record { old_is = refl; new_is = refl }) made g own end h)

pub returns-clause-cool : goal.returns-clause-cool
returns-clause-cool c = λ made g own end h. marks-of IsCandidateMark own (cool-actions IsCandidateMark IsNoAck (inr (record { old_is = refl; new_is = refl })) made g own end h)

pub returns-clause-demotion : goal.returns-clause-demotion
returns-clause-demotion c = λ made g own end h. marks-of IsNoMark own (demotion-actions IsNoMark IsNoAck made g own end h)

pub returns-clause-inspection : goal.returns-clause-inspection
returns-clause-inspection c = λ made g own end h. marks-of IsNoMark own (inspection-actions IsNoMark IsNoAck made g own end h)

pub returns-clause-ask : goal.returns-clause-ask
returns-clause-ask c = λ cpus g own all h. marks-of IsNoMark own (asks-actions IsNoMark IsNoAck g 0 cpus own all h)

pub returns-clause-fault : goal.returns-clause-fault
returns-clause-fault c = λ begun g own end h. marks-of IsNoMark own (fault-actions IsNoMark IsNoAck begun g own end h)
