-- The larger parts of the migrator's work: what each tells of itself, by names.
use Rattle.std.specs.Prelude.{List}
use Rattle.nm_base.specs.Geometry.{Geometry}
use Rattle.nm_action.specs.declared.action.Action.{Action}
use Rattle.nm_action.specs.declared.spent.Spent.{Spent}
use Rattle.nm_action.specs.Own.{Own}
use Rattle.nm_view.specs.Views.{View}
use Rattle.nm_txn.specs.declared.end.TxnEnd.{TxnEnd}
use Rattle.nm_batch.specs.Runs.{BatchRunMade, batch_run_made, IsNewBatchRun, MayBatchRun, IsBatchRunList, BatchRunLeaves, AwaitsBatchRun}
use Rattle.nm_locked.specs.declared.locked.LockedOver.{LockedOver}
use Rattle.nm_locked_run.specs.Runs.{LockedMade, locked_run_made, IsNewLockedRun, MayLockedRun, IsLockedRunList, LockedRunLeaves, AwaitsLockedRun}
use Rattle.nm_drawing.specs.declared.drawing.Drawn.{Drawn}
use Rattle.nm_drawing.specs.Draws.{IsNewDrawing, MayDraw, IsDrawingList, IsDrawnLeft, AwaitsDrawing}
use Rattle.nm_migrator_parts.specs.declared.parts.BatchWork.{BatchWork}
use Rattle.nm_migrator_parts.specs.declared.parts.MoveWork.{MoveWork}

-- Batches.

abbrev pub BatchData : Type 0
BatchData = BatchRunMade × Spent

abbrev pub batch_work_made : BatchWork → BatchData
batch_work_made w = record { 0 = batch_run_made w.run.piece; 1 = w.run.begun }

abbrev pub IsNewBatchWork : BatchWork → Type 0
IsNewBatchWork w = IsNewDrawing (IsNewBatchRun w.run.piece) w.run.begun w.run.spent

abbrev pub MayBatchWork : BatchData → Geometry → View → Type 0
MayBatchWork made g view = MayDraw (MayBatchRun made.0 g view) made.1 view

abbrev pub IsBatchWork : BatchData → Geometry → Own → Drawn (List TxnEnd) → Type 0
IsBatchWork made g own told = IsDrawingList (IsBatchRunList made.0 g own) made.1 own told

abbrev pub BatchWorkLeaves : BatchData → Geometry → View → Drawn (List TxnEnd) → View → Type 0
BatchWorkLeaves made g view told left = IsDrawnLeft (λ end. BatchRunLeaves made.0 g view end left) left told

abbrev pub AwaitsBatchWork : BatchWork → Geometry → View → Own → Action → Type 0
AwaitsBatchWork w g view own action = AwaitsDrawing (AwaitsBatchRun w.run.piece g view own action) w.run.action w.run.begun w.run.spent g view own action

-- Locked moves.

abbrev pub MoveData : Type 0
MoveData = LockedMade × Spent

abbrev pub move_work_made : MoveWork → MoveData
move_work_made w = record { 0 = locked_run_made w.run.piece; 1 = w.run.begun }

abbrev pub IsNewMoveWork : MoveWork → Type 0
IsNewMoveWork w = IsNewDrawing (IsNewLockedRun w.run.piece) w.run.begun w.run.spent

abbrev pub MayMoveWork : MoveData → Geometry → View → Type 0
MayMoveWork made g view = MayDraw (MayLockedRun made.0 g view) made.1 view

abbrev pub IsMoveWork : MoveData → Geometry → Own → Drawn LockedOver → Type 0
IsMoveWork made g own told = IsDrawingList (IsLockedRunList made.0 g own) made.1 own told

abbrev pub MoveWorkLeaves : MoveData → Geometry → View → Drawn LockedOver → View → Type 0
MoveWorkLeaves made g view told left = IsDrawnLeft (λ end. LockedRunLeaves made.0 g view end left) left told

abbrev pub AwaitsMoveWork : MoveWork → Geometry → View → Own → Action → Type 0
AwaitsMoveWork w g view own action = AwaitsDrawing (AwaitsLockedRun w.run.piece g view own action) w.run.action w.run.begun w.run.spent g view own action
