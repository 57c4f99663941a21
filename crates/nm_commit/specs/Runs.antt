-- An unmapping and a decision that run: what they tell of themselves, by names.
use Rattle.nm_base.specs.Geometry.{Geometry}
use Rattle.nm_action.specs.declared.action.Action.{Action}
use Rattle.nm_action.specs.Own.{Own}
use Rattle.nm_view.specs.Views.{View}
use Rattle.nm_compose.specs.Acts.{MayAct, IsAct, AwaitsAct}
use Rattle.nm_compose.specs.Choices.{AwaitsOr}
use Rattle.nm_compose.specs.Composites.{HasFirst, IsRunning}
use Rattle.nm_compose.specs.Stages.{IsPieceAt}
use Rattle.nm_compose.specs.declared.act.Act.{Act}
use Rattle.nm_pool.specs.Stages.{AwaitsPool}
use Rattle.nm_prepare.specs.Placing.{IsPlanPlaced}
use Rattle.nm_commit.specs.declared.unmap.UnmapMade.{UnmapMade}
use Rattle.nm_commit.specs.declared.unmap_run.UnmapRun.{UnmapRun}
use Rattle.nm_commit.specs.declared.decide.DecideMade.{DecideMade}
use Rattle.nm_commit.specs.declared.decide.Decided.{Decided}
use Rattle.nm_commit.specs.declared.decide_run.DecideRun.{DecideRun}
use Rattle.nm_commit.specs.Unmapping.{UnmapsOne, MayUnmapping, unmap_left, unmap_stages}
use Rattle.nm_commit.specs.Deciding.{IsDeciding, MayDecide}
use Rattle.nm_commit.specs.Stages.{decide_made, IsNewDecidePiece, MayDecidePiece, IsDecidePiece, decide_piece, decide_left, DecideKnown}

-- The unmapping.

abbrev pub unmap_run_made : UnmapRun → UnmapMade
unmap_run_made r = r.run.plan.made

-- it has given no action
abbrev pub IsNewUnmapRun : UnmapRun → Type 0
IsNewUnmapRun r = HasFirst (λ (a : Act). a.action) (λ a. Unit {0}) (λ action g view. MayAct g view action) IsAct (IsPieceAt unmap_stages r.run.plan.made r.run.plan.stage) (unmap_left r.run.plan.made r.run.plan.stage) MayUnmapping UnmapsOne r.run.plan.made r.run.piece

-- it awaits the answer to its action
abbrev pub AwaitsUnmapRun : UnmapRun → Geometry → View → Own → Action → Type 0
AwaitsUnmapRun r = IsRunning IsAct (AwaitsAct r.run.piece) (IsPieceAt unmap_stages r.run.plan.made r.run.plan.stage) (unmap_left r.run.plan.made r.run.plan.stage) (UnmapsOne r.run.plan.made) r.run.piece.action

-- The decision: what it is made with, in which geometry.

abbrev pub DecideData : Type 0
DecideData = Geometry × DecideMade

abbrev pub MayDecideOf : DecideData → Geometry → View → Type 0
MayDecideOf made g view = MayDecide made.0 made.1 g view

abbrev pub IsDecidingOf : DecideData → Geometry → Own → Decided → Type 0
IsDecidingOf made g own outcome = IsDeciding made.1 g own outcome

abbrev pub decide_run_made : DecideRun → DecideData
decide_run_made r = record { 0 = r.run.plan.geometry.now; 1 = r.run.plan.made }

-- it has given no action
abbrev pub IsNewDecideRun : DecideRun → Type 0
IsNewDecideRun r = HasFirst decide_made IsNewDecidePiece MayDecidePiece IsDecidePiece (IsPlanPlaced decide_piece DecideKnown r.run.plan.geometry.now r.run.plan.made r.run.plan.stage) (decide_left r.run.plan.made r.run.plan.stage)
    MayDecideOf IsDecidingOf (decide_run_made r) r.run.piece

-- it awaits the answer that its piece awaits
abbrev pub AwaitsDecideRun : DecideRun → Geometry → View → Own → Action → Type 0
AwaitsDecideRun r = IsRunning IsDecidePiece (AwaitsOr AwaitsAct AwaitsPool r.run.piece) (IsPlanPlaced decide_piece DecideKnown r.run.plan.geometry.now r.run.plan.made r.run.plan.stage) (decide_left r.run.plan.made r.run.plan.stage) (IsDecidingOf (decide_run_made r)) (decide_made r.run.piece)
