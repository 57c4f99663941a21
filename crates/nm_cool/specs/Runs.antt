-- The cooling of a candidate that runs: what it tells of itself, by names.
use Rattle.nm_base.specs.Geometry.{Geometry}
use Rattle.nm_action.specs.declared.action.Action.{Action}
use Rattle.nm_action.specs.Own.{Own}
use Rattle.nm_view.specs.Views.{View}
use Rattle.nm_compose.specs.Acts.{AwaitsAct}
use Rattle.nm_compose.specs.Choices.{AwaitsOr}
use Rattle.nm_compose.specs.Composites.{HasFirst, IsRunning}
use Rattle.nm_compose.specs.Stages.{IsPieceAt}
use Rattle.nm_mappings.specs.Runs.{AwaitsVisits}
use Rattle.nm_looks.specs.Parts.{AwaitsLooksRun}
use Rattle.nm_cool.specs.declared.run.CoolRun.{CoolRun}
use Rattle.nm_cool.specs.Cooling.{CoolData, IsCooling, MayCool}
use Rattle.nm_cool.specs.Stages.{ArmsPart, cool_data, cool_piece_made, IsNewCoolPiece, MayCoolPiece, IsCoolPiece, cool_left, cool_stages}

-- what it was made with
abbrev pub cool_run_made : CoolRun → CoolData
cool_run_made r = cool_data r.run.plan

-- it has given no action
abbrev pub IsNewCoolRun : CoolRun → Type 0
IsNewCoolRun r = HasFirst cool_piece_made IsNewCoolPiece MayCoolPiece IsCoolPiece (IsPieceAt cool_stages (cool_run_made r) r.run.plan.stage) (cool_left (cool_run_made r) r.run.plan.stage) MayCool IsCooling (cool_run_made r) r.run.piece

-- it awaits the answer that its piece awaits

abbrev pub AwaitsArms : ArmsPart → Geometry → View → Own → Action → Type 0
AwaitsArms = AwaitsVisits

abbrev pub AwaitsCoolRun : CoolRun → Geometry → View → Own → Action → Type 0
AwaitsCoolRun r = IsRunning IsCoolPiece (AwaitsOr AwaitsAct (AwaitsOr AwaitsLooksRun AwaitsArms) r.run.piece) (IsPieceAt cool_stages (cool_run_made r) r.run.plan.stage) (cool_left (cool_run_made r) r.run.plan.stage) (IsCooling (cool_run_made r)) (cool_piece_made r.run.piece)
