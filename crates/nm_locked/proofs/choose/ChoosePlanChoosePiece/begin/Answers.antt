use Rattle.nm_locked.specs.declared.choose.Stage.TheVariants.{Locking}
use Rattle.nm_locked.specs.Choosing.{IsChoosing}
use Rattle.nm_locked.specs.Stages.{move_piece_made}
use Rattle.nm_locked.proofs.Runs.{gives-choose}
use Rattle.nm_locked.proofs.Steps.{runs-locking, may-here}
use Rattle.nm_locked.proofs.choose.ChoosePlanChoosePiece.begin.Goals as goal

pub returns-clause-run : goal.returns-clause-run
returns-clause-run c = λ g view may.
    gives-choose c.args.self.now c.go.new.self Locking (move_piece_made c.go.result) (IsChoosing c.args.self.now.made g) g view view may.same c.go.ensures.stage c.go.ensures.made
    (runs-locking c.args.self.now.made g view (may-here c.args.self.now.geometry.now c.args.self.now.made g view may))
