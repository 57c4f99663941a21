use Rattle.nm_reclaim.proofs.Sweeping.{begins}
use Rattle.nm_reclaim.proofs.sweep.SweepPlanSweepPiece.begin.Goals as goal

pub returns-clause-run : goal.returns-clause-run
returns-clause-run c = λ g view may. (begins c.args.self.now c.go.new.self c.go.result g view c.requires c.go.ensures.stage c.go.ensures.made c.go.ensures.new may).run
