use Rattle.nm_kswap.specs.Works.{IsNewReclaimerWork}
use Rattle.nm_kswap.specs.Parts.{reclaimer_number}
use Rattle.nm_kswap.proofs.Lists.{reclaiming-can}
use Rattle.nm_kswap.proofs.Giving.{first-task}
use Rattle.nm_kswap.proofs.reclaiming.ReclaimingRoutineReclaimerPiece.begin.Goals as goal

pub returns-clause-next : goal.returns-clause-next
returns-clause-next c =
    first-task IsNewReclaimerWork c.args.self.now c.go.new.self c.go.result (reclaimer_number c.args.self.now.geometry.now) c.requires c.go.ensures.geometry c.go.ensures.kept c.go.ensures.stage c.go.ensures.words c.go.ensures.made c.go.ensures.new

pub returns-clause-can : goal.returns-clause-can
returns-clause-can c = reclaiming-can c.args.self.now.geometry.now
