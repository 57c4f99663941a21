-- The locked move that runs: what it tells of itself, by names.
use Rattle.nm_base.specs.Geometry.{Geometry}
use Rattle.nm_action.specs.declared.action.Action.{Action}
use Rattle.nm_action.specs.Own.{Own}
use Rattle.nm_view.specs.Views.{View}
use Rattle.nm_compose.specs.Choices.{AwaitsOr}
use Rattle.nm_compose.specs.Composites.{HasFirst, IsRunning}
use Rattle.nm_compose.specs.Acts.{AwaitsAct}
use Rattle.nm_pool.specs.Stages.{AwaitsPool}
use Rattle.nm_prepare.specs.Placing.{IsPlanPlaced}
use Rattle.nm_transfer.specs.Runs.{AwaitsTransferRun}
use Rattle.nm_locked.specs.declared.choose.ChooseMade.{ChooseMade}
use Rattle.nm_locked.specs.declared.locked.LockedOver.{LockedOver}
use Rattle.nm_locked.specs.Chosen.{MayChoose}
use Rattle.nm_locked.specs.Leaving.{IsLockedLeft}
use Rattle.nm_locked.specs.Moves.{IsLockedInMove}
use Rattle.nm_locked.specs.Pieces.{locked_parts, IsNewLockedPiece, MayLockedPiece, IsLockedPiece}
use Rattle.nm_locked.specs.Places.{locked_at, locked_piece, locked_left, LockedKnown}
use Rattle.nm_locked.specs.ChooseRuns.{MayChooseOf, AwaitsChooseRun}
use Rattle.nm_locked_run.specs.declared.run.LockedRun.{LockedRun}

-- what a move is made with, in which geometry
abbrev pub LockedMade : Type 0
LockedMade = Geometry × ChooseMade

abbrev pub locked_run_made : LockedRun → LockedMade
locked_run_made r = record { 0 = r.run.plan.geometry.now; 1 = r.run.plan.made }

-- when it may begin, its finished lists, and what it leaves
abbrev pub MayLockedRun : LockedMade → Geometry → View → Type 0
MayLockedRun made g view = MayChoose made.0 made.1 g view

abbrev pub IsLockedRunList : LockedMade → Geometry → Own → LockedOver → Type 0
IsLockedRunList made g own over = IsLockedInMove made.1 g own over.end

abbrev pub LockedRunLeaves : LockedMade → Geometry → View → LockedOver → View → Type 0
LockedRunLeaves made g view over left = IsLockedLeft made.1 view over.end left

-- it has given no action
abbrev pub IsNewLockedRun : LockedRun → Type 0
IsNewLockedRun r = HasFirst locked_parts IsNewLockedPiece MayLockedPiece IsLockedPiece (IsPlanPlaced locked_piece LockedKnown r.run.plan.geometry.now r.run.plan.made (locked_at r.run.plan)) (locked_left r.run.plan.made (locked_at r.run.plan))
    MayChooseOf IsLockedRunList (locked_run_made r) r.run.piece

-- it awaits the answer that its piece awaits
abbrev pub AwaitsLockedRun : LockedRun → Geometry → View → Own → Action → Type 0
AwaitsLockedRun r = IsRunning IsLockedPiece (AwaitsOr AwaitsChooseRun (AwaitsOr AwaitsTransferRun (AwaitsOr AwaitsAct AwaitsPool)) r.run.piece) (IsPlanPlaced locked_piece LockedKnown r.run.plan.geometry.now r.run.plan.made (locked_at r.run.plan)) (locked_left r.run.plan.made (locked_at r.run.plan)) (IsLockedRunList (locked_run_made r)) (locked_parts r.run.piece)
