-- The steps before a locked move takes the page out of the table, as one part: what it tells of itself, by names.
use Rattle.nm_base.specs.Geometry.{Geometry}
use Rattle.nm_action.specs.declared.action.Action.{Action}
use Rattle.nm_action.specs.Own.{Own}
use Rattle.nm_view.specs.Views.{View}
use Rattle.nm_compose.specs.Choices.{AwaitsOr}
use Rattle.nm_compose.specs.Composites.{HasFirst, IsRunning}
use Rattle.nm_compose.specs.Acts.{AwaitsAct}
use Rattle.nm_pool.specs.Stages.{AwaitsPool}
use Rattle.nm_prepare.specs.Placing.{IsPlanPlaced}
use Rattle.nm_mappings.specs.Runs.{AwaitsVisits}
use Rattle.nm_locked.specs.declared.choose.ChooseMade.{ChooseMade}
use Rattle.nm_locked.specs.declared.choose.Chosen.{Chosen}
use Rattle.nm_locked.specs.declared.choose_run.ChooseRun.{ChooseRun}
use Rattle.nm_locked.specs.Choosing.{IsChoosing}
use Rattle.nm_locked.specs.Chosen.{MayChoose}
use Rattle.nm_locked.specs.Stages.{move_piece_made, IsNewPieceInMove, MayPieceInMove, IsPieceInMove, choose_piece, choose_left, ChooseKnown}

abbrev pub MayChooseOf : Geometry × ChooseMade → Geometry → View → Type 0
MayChooseOf made g view = MayChoose made.0 made.1 g view

abbrev pub IsChoosingOf : Geometry × ChooseMade → Geometry → Own → Chosen → Type 0
IsChoosingOf made g own outcome = IsChoosing made.1 g own outcome

abbrev pub choose_run_made : ChooseRun → Geometry × ChooseMade
choose_run_made r = record { 0 = r.run.plan.geometry.now; 1 = r.run.plan.made }

-- it has given no action
abbrev pub IsNewChooseRun : ChooseRun → Type 0
IsNewChooseRun r = HasFirst move_piece_made IsNewPieceInMove MayPieceInMove IsPieceInMove (IsPlanPlaced choose_piece ChooseKnown r.run.plan.geometry.now r.run.plan.made r.run.plan.stage) (choose_left r.run.plan.made r.run.plan.stage)
    MayChooseOf IsChoosingOf (record { 0 = r.run.plan.geometry.now; 1 = r.run.plan.made }) r.run.piece

-- it awaits the answer that its piece awaits
abbrev pub AwaitsChooseRun : ChooseRun → Geometry → View → Own → Action → Type 0
AwaitsChooseRun r = IsRunning IsPieceInMove (AwaitsOr AwaitsAct (AwaitsOr AwaitsVisits AwaitsPool) r.run.piece) (IsPlanPlaced choose_piece ChooseKnown r.run.plan.geometry.now r.run.plan.made r.run.plan.stage) (choose_left r.run.plan.made r.run.plan.stage) (λ g own outcome. IsChoosing r.run.plan.made g own outcome) (move_piece_made r.run.piece)
