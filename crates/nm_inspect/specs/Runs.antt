-- The inspection that runs: what it tells of itself, by names.
use Rattle.nm_base.specs.Geometry.{Geometry}
use Rattle.nm_action.specs.declared.action.Action.{Action}
use Rattle.nm_action.specs.Own.{Own}
use Rattle.nm_view.specs.Views.{View}
use Rattle.nm_compose.specs.Choices.{AwaitsOr}
use Rattle.nm_compose.specs.Composites.{HasFirst, IsRunning}
use Rattle.nm_compose.specs.Stages.{IsPieceAt}
use Rattle.nm_looks.specs.Parts.{AwaitsLooksRun, AwaitsSoftensRun}
use Rattle.nm_inspect.specs.declared.run.InspectRun.{InspectRun}
use Rattle.nm_inspect.specs.Inspecting.{InspectData, IsInspection, MayInspect}
use Rattle.nm_inspect.specs.Stages.{inspect_data, MayInspectPiece, IsInspectPiece, inspect_piece_made, IsNewInspectPiece, inspect_left, inspect_stages}

-- what it was made with
abbrev pub inspect_run_made : InspectRun → InspectData
inspect_run_made r = inspect_data r.run.plan

-- it has given no action
abbrev pub IsNewInspectRun : InspectRun → Type 0
IsNewInspectRun r = HasFirst inspect_piece_made IsNewInspectPiece MayInspectPiece IsInspectPiece (IsPieceAt inspect_stages (inspect_run_made r) r.run.plan.stage) (inspect_left (inspect_run_made r) r.run.plan.stage) MayInspect IsInspection (inspect_run_made r) r.run.piece

-- it awaits the answer that its piece awaits
abbrev pub AwaitsInspectRun : InspectRun → Geometry → View → Own → Action → Type 0
AwaitsInspectRun r = IsRunning IsInspectPiece (AwaitsOr AwaitsLooksRun AwaitsSoftensRun r.run.piece) (IsPieceAt inspect_stages (inspect_run_made r) r.run.plan.stage) (inspect_left (inspect_run_made r) r.run.plan.stage) (IsInspection (inspect_run_made r)) (inspect_piece_made r.run.piece)
