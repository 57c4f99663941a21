-- The transaction as a part: all that is said of it is said by its composite.
use Rattle.nm_base.specs.Geometry.{Geometry}
use Rattle.nm_action.specs.declared.action.Action.{Action}
use Rattle.nm_action.specs.Own.{Own}
use Rattle.nm_view.specs.Views.{View}
use Rattle.nm_compose.specs.Choices.{AwaitsOr}
use Rattle.nm_compose.specs.Composites.{HasFirst, IsRunning}
use Rattle.nm_shoot.specs.Asking.{AwaitsShoot}
use Rattle.nm_copying.specs.Runs.{AwaitsCopiesRun}
use Rattle.nm_prepare.specs.Placing.{IsPlanPlaced}
use Rattle.nm_prepare.specs.declared.prepare.PrepareMade.{PrepareMade}
use Rattle.nm_prepare.specs.Runs.{AwaitsPrepareRun}
use Rattle.nm_commit.specs.Runs.{AwaitsUnmapRun, AwaitsDecideRun}
use Rattle.nm_txn.specs.declared.task.TxnTask.{TxnTask}
use Rattle.nm_txn.specs.Transactions.{IsTxn}
use Rattle.nm_txn.specs.Leaving.{MayTxn}
use Rattle.nm_txn.specs.Pieces.{TxnPiece, txn_parts, IsNewTxnPiece, MayTxnPiece, IsTxnPiece}
use Rattle.nm_txn.specs.Stages.{txn_piece, txn_left, TxnKnown}

-- what it was begun with, in which geometry
abbrev pub txn_of : TxnTask → Geometry × PrepareMade
txn_of t = record { 0 = t.run.plan.geometry.now; 1 = t.run.plan.made }

-- it has given no action
abbrev pub IsNewTxn : TxnTask → Type 0
IsNewTxn t = HasFirst txn_parts IsNewTxnPiece MayTxnPiece IsTxnPiece (IsPlanPlaced txn_piece TxnKnown t.run.plan.geometry.now t.run.plan.made t.run.plan.stage) (txn_left t.run.plan.made t.run.plan.stage)
    (λ (made : Geometry × PrepareMade) g view. MayTxn made.0 made.1 g view) (λ (made : Geometry × PrepareMade) g own outcome. IsTxn made.1 g own outcome) (txn_of t) t.run.piece

-- it awaits the answer that its piece awaits

abbrev pub PieceAwaits : TxnPiece → Geometry → View → Own → Action → Type 0
PieceAwaits = AwaitsOr AwaitsPrepareRun (AwaitsOr AwaitsShoot (AwaitsOr AwaitsCopiesRun (AwaitsOr AwaitsUnmapRun AwaitsDecideRun)))

abbrev pub AwaitsTxn : TxnTask → Geometry → View → Own → Action → Type 0
AwaitsTxn t = IsRunning IsTxnPiece (PieceAwaits t.run.piece) (IsPlanPlaced txn_piece TxnKnown t.run.plan.geometry.now t.run.plan.made t.run.plan.stage) (txn_left t.run.plan.made t.run.plan.stage) (λ g own outcome. IsTxn t.run.plan.made g own outcome) (txn_parts t.run.piece)
