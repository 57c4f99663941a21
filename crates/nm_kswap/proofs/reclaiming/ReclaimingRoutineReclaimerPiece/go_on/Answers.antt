use Rattle.nm_kswap.specs.Works.{IsNewReclaimerWork, ReclaimerWorkEnded}
use Rattle.nm_kswap.proofs.Giving.{next-task, over-able, over-stage}
use Rattle.nm_kswap.proofs.reclaiming.ReclaimingRoutineReclaimerPiece.go_on.Goals as goal

pub going_on-stage-requires-clause-kind : goal.going_on-stage-requires-clause-kind
going_on-stage-requires-clause-kind c = let h = c.requires in over-able ReclaimerWorkEnded c.args.self.now _ c.args.end _ h.now h.later c.in-Run.is h.known h.over

pub go-requires-clause-stage : goal.go-requires-clause-stage
go-requires-clause-stage c =
    let h = c.requires in
    over-stage ReclaimerWorkEnded c.args.self.now c.going_on-stage.new.self c.going_on-stage.result _ c.args.end _ h.now h.later c.in-Run.is c.going_on-stage.ensures.stage c.going_on-stage.ensures.geometry h.known h.over

pub returns-clause-next : goal.returns-clause-next
returns-clause-next c = λ now later known over drawn.
    next-task IsNewReclaimerWork ReclaimerWorkEnded c.args.self.now c.going_on-stage.new.self c.go.new.self c.going_on-stage.result _ c.go.result c.args.end _ now later c.in-Run.is
    c.going_on-stage.ensures.stage c.going_on-stage.ensures.kept c.going_on-stage.ensures.geometry c.go.ensures.geometry c.go.ensures.kept c.go.ensures.stage c.go.ensures.words c.go.ensures.made c.go.ensures.new known over
