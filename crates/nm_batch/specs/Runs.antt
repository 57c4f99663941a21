-- The batch of transactions that runs: what it tells of itself, by names.
use Rattle.std.specs.Prelude.{List}
use Rattle.nm_base.specs.Geometry.{Geometry}
use Rattle.nm_action.specs.declared.action.Action.{Action}
use Rattle.nm_action.specs.Own.{Own}
use Rattle.nm_view.specs.Views.{View}
use Rattle.nm_compose.specs.Composites.{HasFirst, IsRunning}
use Rattle.nm_prepare.specs.Placing.{IsPlanPlaced}
use Rattle.nm_txn.specs.declared.end.TxnEnd.{TxnEnd}
use Rattle.nm_txn.specs.Batches.{IsBatch}
use Rattle.nm_txn.specs.Pieces.{txn_parts, IsNewTxnPiece, MayTxnPiece, IsTxnPiece}
use Rattle.nm_txn.specs.Tasks.{PieceAwaits}
use Rattle.nm_batch.specs.declared.batch.BatchAsked.{BatchAsked}
use Rattle.nm_batch.specs.Leaving.{MayBatch, IsBatchLeft}
use Rattle.nm_batch.specs.Opened.{BatchKnown}
use Rattle.nm_batch.specs.Places.{batch_made, batch_piece_at, batch_left}
use Rattle.nm_batch.specs.declared.run.BatchRun.{BatchRun}

-- what a batch is made with, in which geometry
abbrev pub BatchRunMade : Type 0
BatchRunMade = Geometry × BatchAsked

abbrev pub batch_run_made : BatchRun → BatchRunMade
batch_run_made r = record { 0 = r.run.plan.geometry.now; 1 = r.run.plan.asked }

-- when it may begin, its finished lists, and what it leaves
abbrev pub MayBatchRun : BatchRunMade → Geometry → View → Type 0
MayBatchRun made g view = MayBatch made.0 (batch_made made.1) g view

abbrev pub IsBatchRunList : BatchRunMade → Geometry → Own → List TxnEnd → Type 0
IsBatchRunList made g own ends = IsBatch (batch_made made.1) g own ends

abbrev pub BatchRunLeaves : BatchRunMade → Geometry → View → List TxnEnd → View → Type 0
BatchRunLeaves made g view ends left = IsBatchLeft (batch_made made.1) view ends left

-- it has given no action
abbrev pub IsNewBatchRun : BatchRun → Type 0
IsNewBatchRun r = HasFirst txn_parts IsNewTxnPiece MayTxnPiece IsTxnPiece (IsPlanPlaced batch_piece_at BatchKnown r.run.plan.geometry.now (batch_made r.run.plan.asked) r.run.plan.place) (batch_left (batch_made r.run.plan.asked) r.run.plan.place)
    MayBatchRun IsBatchRunList (batch_run_made r) r.run.piece

-- it awaits the answer that its piece awaits
abbrev pub AwaitsBatchRun : BatchRun → Geometry → View → Own → Action → Type 0
AwaitsBatchRun r = IsRunning IsTxnPiece (PieceAwaits r.run.piece) (IsPlanPlaced batch_piece_at BatchKnown r.run.plan.geometry.now (batch_made r.run.plan.asked) r.run.plan.place) (batch_left (batch_made r.run.plan.asked) r.run.plan.place) (IsBatchRunList (batch_run_made r)) (txn_parts r.run.piece)
