-- A sweep that runs: what it tells of itself, by names.
use Rattle.nm_base.specs.Geometry.{Geometry}
use Rattle.nm_action.specs.declared.action.Action.{Action}
use Rattle.nm_action.specs.Own.{Own}
use Rattle.nm_view.specs.Views.{View}
use Rattle.nm_compose.specs.Acts.{AwaitsAct}
use Rattle.nm_compose.specs.Choices.{AwaitsOr}
use Rattle.nm_compose.specs.Composites.{HasFirst, IsRunning}
use Rattle.nm_compose.specs.Stages.{IsPieceAt}
use Rattle.nm_pool.specs.Stages.{AwaitsPool}
use Rattle.nm_reclaim.specs.declared.run.SweepRun.{SweepRun}
use Rattle.nm_reclaim.specs.Sweeping.{SweptMade, sweep_made, sweep_piece_made, IsNewSweepPiece, MaySweepPiece, IsSweepPiece, MaySweep, IsSweep, sweep_stages, sweep_left}

abbrev pub sweep_run_made : SweepRun → SweptMade
sweep_run_made r = sweep_made r.run.plan.geometry.now r.run.plan.made

-- it has given no action
abbrev pub IsNewSweepRun : SweepRun → Type 0
IsNewSweepRun r = HasFirst sweep_piece_made IsNewSweepPiece MaySweepPiece IsSweepPiece (IsPieceAt sweep_stages (sweep_run_made r) r.run.plan.place) (sweep_left (sweep_run_made r) r.run.plan.place) MaySweep IsSweep (sweep_run_made r) r.run.piece

-- it awaits the answer that its piece awaits
abbrev pub AwaitsSweepRun : SweepRun → Geometry → View → Own → Action → Type 0
AwaitsSweepRun r = IsRunning IsSweepPiece (AwaitsOr AwaitsAct AwaitsPool r.run.piece) (IsPieceAt sweep_stages (sweep_run_made r) r.run.plan.place) (sweep_left (sweep_run_made r) r.run.plan.place) (IsSweep (sweep_run_made r)) (sweep_piece_made r.run.piece)
