use Rattle.nm_obtain.proofs.Searching.{begins}
use Rattle.nm_obtain.proofs.obtain.ObtainPlanObtainPiece.begin.Goals as goal

pub returns-clause-run : goal.returns-clause-run
returns-clause-run c = λ g view may. (begins c.args.self.now c.take.new.self c.take.result g view (record { is = c.take.ensures.stage; makes = c.take.ensures.made; fresh = c.take.ensures.new }) may).run
