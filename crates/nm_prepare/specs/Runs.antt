-- The steps up to the first flush, which run: what they tell of themselves, by names.
use Rattle.nm_base.specs.Geometry.{Geometry}
use Rattle.nm_action.specs.declared.action.Action.{Action}
use Rattle.nm_action.specs.Own.{Own}
use Rattle.nm_view.specs.Views.{View}
use Rattle.nm_compose.specs.Choices.{AwaitsOr}
use Rattle.nm_compose.specs.Composites.{HasFirst, IsRunning}
use Rattle.nm_compose.specs.Acts.{AwaitsAct}
use Rattle.nm_pool.specs.Stages.{AwaitsPool}
use Rattle.nm_mappings.specs.Runs.{AwaitsVisits}
use Rattle.nm_prepare.specs.declared.prepare.PrepareMade.{PrepareMade}
use Rattle.nm_prepare.specs.declared.prepare.Prepared.{Prepared}
use Rattle.nm_prepare.specs.declared.run.PrepareRun.{PrepareRun}
use Rattle.nm_prepare.specs.Placing.{IsPlanPlaced}
use Rattle.nm_prepare.specs.Preparing.{IsPrepare}
use Rattle.nm_prepare.specs.Ready.{MayPrepare}
use Rattle.nm_prepare.specs.Stages.{piece_made, IsNewPiece, MayPiece, IsPreparePiece, prepare_piece, prepare_left, PrepareKnown}

-- what they are made with, in which geometry
abbrev pub PrepareData : Type 0
PrepareData = Geometry × PrepareMade

abbrev pub MayPrepareOf : PrepareData → Geometry → View → Type 0
MayPrepareOf made g view = MayPrepare made.0 made.1 g view

abbrev pub IsPrepareOf : PrepareData → Geometry → Own → Prepared → Type 0
IsPrepareOf made g own outcome = IsPrepare made.1 g own outcome

abbrev pub prepare_run_made : PrepareRun → PrepareData
prepare_run_made r = record { 0 = r.run.plan.geometry.now; 1 = r.run.plan.made }

-- they have given no action
abbrev pub IsNewPrepareRun : PrepareRun → Type 0
IsNewPrepareRun r = HasFirst piece_made IsNewPiece MayPiece IsPreparePiece (IsPlanPlaced prepare_piece PrepareKnown r.run.plan.geometry.now r.run.plan.made r.run.plan.stage) (prepare_left r.run.plan.made r.run.plan.stage)
    MayPrepareOf IsPrepareOf (prepare_run_made r) r.run.piece

-- they await the answer that their piece awaits
abbrev pub AwaitsPrepareRun : PrepareRun → Geometry → View → Own → Action → Type 0
AwaitsPrepareRun r = IsRunning IsPreparePiece (AwaitsOr AwaitsAct (AwaitsOr AwaitsVisits AwaitsPool) r.run.piece) (IsPlanPlaced prepare_piece PrepareKnown r.run.plan.geometry.now r.run.plan.made r.run.plan.stage) (prepare_left r.run.plan.made r.run.plan.stage) (IsPrepareOf (prepare_run_made r)) (piece_made r.run.piece)
