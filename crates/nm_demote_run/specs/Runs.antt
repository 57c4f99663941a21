-- The demotion that runs: what it tells of itself, by names.
use Rattle.nm_base.specs.Geometry.{Geometry}
use Rattle.nm_compose.specs.Composites.{HasFirst, IsRunning}
use Rattle.nm_compose.specs.Choices.{AwaitsOr}
use Rattle.nm_compose.specs.Acts.{AwaitsAct}
use Rattle.nm_prepare.specs.Placing.{IsPlanPlaced}
use Rattle.nm_demote.specs.declared.select.DemoteMade.{DemoteMade}
use Rattle.nm_demote.specs.Demotions.{IsDemotion}
use Rattle.nm_demote.specs.Selections.{MayDemote}
use Rattle.nm_demote.specs.Pieces.{demote_parts, IsNewDemotePiece, MayDemotePiece, IsDemotePiece}
use Rattle.nm_demote.specs.Places.{demote_at, demote_piece, demote_left, DemoteKnown}
use Rattle.nm_demote.specs.SelectTasks.{AwaitsSelection}
use Rattle.nm_demote_run.specs.declared.run.DemoteRun.{DemoteRun}
use Rattle.nm_action.specs.declared.action.Action.{Action}
use Rattle.nm_action.specs.Own.{Own}
use Rattle.nm_view.specs.Views.{View}
use Rattle.nm_pool.specs.Stages.{AwaitsPool}
use Rattle.nm_transfer.specs.Runs.{AwaitsTransferRun}

-- what a demotion is made with, in which geometry
abbrev pub DemoteData : Type 0
DemoteData = Geometry × DemoteMade

abbrev pub demote_run_made : DemoteRun → DemoteData
demote_run_made r = record { 0 = r.run.plan.geometry.now; 1 = r.run.plan.made }

-- it has given no action
abbrev pub IsNewDemoteRun : DemoteRun → Type 0
IsNewDemoteRun r = HasFirst {Q = DemoteData} demote_parts IsNewDemotePiece MayDemotePiece IsDemotePiece (IsPlanPlaced demote_piece DemoteKnown r.run.plan.geometry.now r.run.plan.made (demote_at r.run.plan)) (demote_left r.run.plan.made (demote_at r.run.plan))
    (λ made g view. MayDemote made.0 made.1 g view) (λ made g own over. IsDemotion made.1 g own over.end) (demote_run_made r) r.run.piece

-- it awaits the answer that its piece awaits
abbrev pub AwaitsDemotion : DemoteRun → Geometry → View → Own → Action → Type 0
AwaitsDemotion r = IsRunning IsDemotePiece (AwaitsOr AwaitsSelection (AwaitsOr AwaitsTransferRun (AwaitsOr AwaitsAct AwaitsPool)) r.run.piece) (IsPlanPlaced demote_piece DemoteKnown r.run.plan.geometry.now r.run.plan.made (demote_at r.run.plan)) (demote_left r.run.plan.made (demote_at r.run.plan))
    (λ g own over. IsDemotion r.run.plan.made g own over.end) (demote_parts r.run.piece)
