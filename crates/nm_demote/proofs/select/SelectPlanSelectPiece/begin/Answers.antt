use Rattle.nm_demote.specs.declared.select.Stage.TheVariants.{Locking}
use Rattle.nm_demote.specs.Selecting.{IsSelecting}
use Rattle.nm_demote.specs.Stages.{select_piece_made}
use Rattle.nm_demote.proofs.Runs.{gives-select}
use Rattle.nm_demote.proofs.Steps.{runs-locking, may-here}
use Rattle.nm_demote.proofs.select.SelectPlanSelectPiece.begin.Goals as goal

pub returns-clause-run : goal.returns-clause-run
returns-clause-run c = λ g view may.
    gives-select c.args.self.now c.go.new.self Locking (select_piece_made c.go.result) (IsSelecting c.args.self.now.made g) g view view may.same c.go.ensures.stage c.go.ensures.made
    (runs-locking c.args.self.now.made g view (may-here c.args.self.now.geometry.now c.args.self.now.made g view may))
