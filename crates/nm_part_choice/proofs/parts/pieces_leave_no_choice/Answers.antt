use Rattle.nm_part_choice.proofs.Leaves.{shootdown-one, pool-one, copying-one, zeroing-one, visits-one, looks-one, softens-one, transfer-one}
use Rattle.nm_part_choice.proofs.Keeping.{reclaim-one, obtain-one}
use Rattle.nm_part_choice.proofs.parts.pieces_leave_no_choice.Goals as goal

pub returns-clause-shootdown : goal.returns-clause-shootdown
returns-clause-shootdown c = shootdown-one

pub returns-clause-pool : goal.returns-clause-pool
returns-clause-pool c = pool-one

pub returns-clause-copies : goal.returns-clause-copies
returns-clause-copies c = copying-one

pub returns-clause-zeroes : goal.returns-clause-zeroes
returns-clause-zeroes c = zeroing-one

pub returns-clause-visits : goal.returns-clause-visits
returns-clause-visits c = visits-one

pub returns-clause-looks : goal.returns-clause-looks
returns-clause-looks c = looks-one

pub returns-clause-softens : goal.returns-clause-softens
returns-clause-softens c = softens-one

pub returns-clause-transfer : goal.returns-clause-transfer
returns-clause-transfer c = transfer-one

pub returns-clause-reclaim : goal.returns-clause-reclaim
returns-clause-reclaim c = reclaim-one

pub returns-clause-obtain : goal.returns-clause-obtain
returns-clause-obtain c = obtain-one
