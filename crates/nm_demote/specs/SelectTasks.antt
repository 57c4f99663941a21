-- The steps before the page is taken out of the table, as a part: all that is said of it is said by its composite.
use Rattle.std.specs.Prelude.{◌≡◌, []}
use Rattle.nm_base.specs.Geometry.{Geometry}
use Rattle.nm_action.specs.declared.action.Action.{Action}
use Rattle.nm_action.specs.Own.{Own}
use Rattle.nm_view.specs.Views.{View}
use Rattle.nm_compose.specs.Choices.{AwaitsOr}
use Rattle.nm_compose.specs.Composites.{HasFirst, IsRunning}
use Rattle.nm_compose.specs.Acts.{AwaitsAct}
use Rattle.nm_obtain.specs.Runs.{AwaitsObtainRun}
use Rattle.nm_mappings.specs.Runs.{AwaitsVisits}
use Rattle.nm_prepare.specs.Placing.{IsPlanPlaced}
use Rattle.nm_demote.specs.declared.select.DemoteMade.{DemoteMade}
use Rattle.nm_demote.specs.declared.select.Selected.{Selected}
use Rattle.nm_demote.specs.declared.select_task.SelectTask.{SelectTask}
use Rattle.nm_demote.specs.Selecting.{IsSelecting}
use Rattle.nm_demote.specs.Selections.{MayDemote}
use Rattle.nm_demote.specs.Stages.{select_piece_made, IsNewSelectPiece, MaySelectPiece, IsSelectPiece, select_piece, select_left, SelectKnown}

-- what it was begun with, in which geometry
abbrev pub select_of : SelectTask → Geometry × DemoteMade
select_of t = record { 0 = t.run.plan.geometry.now; 1 = t.run.plan.made }

abbrev pub MaySelectOf : Geometry × DemoteMade → Geometry → View → Type 0
MaySelectOf made g view = MayDemote made.0 made.1 g view

abbrev pub IsSelectingOf : Geometry × DemoteMade → Geometry → Own → Selected → Type 0
IsSelectingOf made g own outcome = IsSelecting made.1 g own outcome

-- it has given no action
abbrev pub IsNewSelection : SelectTask → Type 0
IsNewSelection t = HasFirst select_piece_made IsNewSelectPiece MaySelectPiece IsSelectPiece (IsPlanPlaced select_piece SelectKnown t.run.plan.geometry.now t.run.plan.made t.run.plan.stage) (select_left t.run.plan.made t.run.plan.stage)
    MaySelectOf IsSelectingOf (select_of t) t.run.piece

-- it awaits the answer that its piece awaits
abbrev pub AwaitsSelection : SelectTask → Geometry → View → Own → Action → Type 0
AwaitsSelection t = IsRunning IsSelectPiece (AwaitsOr AwaitsAct (AwaitsOr AwaitsVisits AwaitsObtainRun) t.run.piece) (IsPlanPlaced select_piece SelectKnown t.run.plan.geometry.now t.run.plan.made t.run.plan.stage) (select_left t.run.plan.made t.run.plan.stage)
    (λ g own outcome. IsSelecting t.run.plan.made g own outcome) (select_piece_made t.run.piece)
