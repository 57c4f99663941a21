use Rattle.nm_missing_fault.specs.declared.missing.MissingStage.TheVariants.{Locking}
use Rattle.nm_missing_fault.specs.MissingFault.{IsMissingFault}
use Rattle.nm_missing_fault.specs.Pieces.{missing_piece_made}
use Rattle.nm_missing_fault.proofs.Runs.{runs-lock, gives-missing}
use Rattle.nm_missing_fault.proofs.Steps.{missing-here}
use Rattle.nm_missing_fault.proofs.missing.MissingFaultPlanMissingPiece.begin.Goals as goal

pub returns-clause-run : goal.returns-clause-run
returns-clause-run c = λ g view may.
    gives-missing c.args.self.now c.go.new.self Locking (missing_piece_made c.go.result) (IsMissingFault c.args.self.now.made g) g view view may.same c.go.ensures.stage c.go.ensures.made
    (runs-lock c.args.self.now.made g view (missing-here c.args.self.now.geometry.now c.args.self.now.made g view may))
