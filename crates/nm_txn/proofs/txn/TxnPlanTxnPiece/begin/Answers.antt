use Rattle.nm_txn.specs.declared.txn.TxnStage.TheVariants.{Preparing}
use Rattle.nm_txn.specs.Transactions.{IsTxn}
use Rattle.nm_txn.specs.Pieces.{txn_parts}
use Rattle.nm_txn.proofs.Runs.{gives-txn}
use Rattle.nm_txn.proofs.Moving.{runs-preparing}
use Rattle.nm_txn.proofs.Steps.{txn-here}
use Rattle.nm_txn.proofs.txn.TxnPlanTxnPiece.begin.Goals as goal

pub returns-clause-run : goal.returns-clause-run
returns-clause-run c = λ g view may.
    gives-txn c.args.self.now c.go.new.self Preparing (txn_parts c.go.result) (IsTxn c.args.self.now.made g) g view view may.prepare.same c.go.ensures.stage c.go.ensures.made
    (runs-preparing c.args.self.now.made g view (txn-here c.args.self.now.geometry.now c.args.self.now.made g view may))
