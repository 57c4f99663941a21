use Rattle.nm_batch.specs.Places.{batch_made}
use Rattle.nm_batch.proofs.Steps.{gives-first}
use Rattle.nm_batch.proofs.Preparing.{begins-batch, batch-here}
use Rattle.nm_batch.proofs.batch.BatchPlanTxnPiece.begin.Goals as goal

pub returns-clause-run : goal.returns-clause-run
returns-clause-run c = λ g view may.
    gives-first c.args.self.now c.go.new.self c.in-Some.page c.in-Some.vpage _ _ g view may.same c.requires.place c.go.ensures.stage c.go.ensures.made
    (begins-batch (batch_made c.args.self.now.asked) c.in-Some.page c.in-Some.vpage _ g view c.in-Some.ensures.some (batch-here c.args.self.now.geometry.now (batch_made c.args.self.now.asked) g view may))
