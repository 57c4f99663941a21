use Rattle.nm_prepare.specs.declared.prepare.Stage.TheVariants.{Locking}
use Rattle.nm_prepare.specs.Preparing.{IsPrepare}
use Rattle.nm_prepare.specs.Stages.{piece_made}
use Rattle.nm_prepare.proofs.Runs.{gives-prepare}
use Rattle.nm_prepare.proofs.Closing.{runs-locking, may-here}
use Rattle.nm_prepare.proofs.prepare.PreparePlanPreparePiece.begin.Goals as goal

pub returns-clause-run : goal.returns-clause-run
returns-clause-run c = λ g view may.
    gives-prepare c.args.self.now c.go.new.self Locking (piece_made c.go.result) (IsPrepare c.args.self.now.made g) g view view may.same c.go.ensures.stage c.go.ensures.made
    (runs-locking c.args.self.now.made g view (may-here c.args.self.now.geometry.now c.args.self.now.made g view may))
