-- A search that runs: what it tells of itself, by names.
use Rattle.nm_base.specs.Geometry.{Geometry}
use Rattle.nm_action.specs.declared.action.Action.{Action}
use Rattle.nm_action.specs.Own.{Own}
use Rattle.nm_view.specs.Views.{View}
use Rattle.nm_compose.specs.Choices.{AwaitsOr}
use Rattle.nm_compose.specs.Composites.{HasFirst, IsRunning}
use Rattle.nm_compose.specs.Stages.{IsPieceAt}
use Rattle.nm_pool.specs.Stages.{AwaitsPool}
use Rattle.nm_reclaim.specs.Runs.{AwaitsSweepRun}
use Rattle.nm_obtain.specs.declared.obtain.ObtainMade.{ObtainMade}
use Rattle.nm_obtain.specs.declared.obtain.Obtained.{Obtained}
use Rattle.nm_obtain.specs.declared.run.ObtainRun.{ObtainRun}
use Rattle.nm_obtain.specs.Obtains.{IsObtain}
use Rattle.nm_obtain.specs.Obtaining.{MayObtain}
use Rattle.nm_obtain.specs.Searching.{obtain_parts, IsNewObtainPiece, MayObtainPiece, IsObtainPiece, obtain_made, obtain_left, obtain_stages}

abbrev pub ObtainData : Type 0
ObtainData = Geometry × ObtainMade

abbrev pub MayObtainOf : ObtainData → Geometry → View → Type 0
MayObtainOf made g view = MayObtain made.0 made.1 g view

abbrev pub IsObtainOf : ObtainData → Geometry → Own → Obtained → Type 0
IsObtainOf made g own outcome = IsObtain made.1 g own outcome

abbrev pub obtain_run_made : ObtainRun → ObtainData
obtain_run_made r = obtain_made r.run.plan.geometry.now r.run.plan.made

-- it has given no action
abbrev pub IsNewObtainRun : ObtainRun → Type 0
IsNewObtainRun r = HasFirst obtain_parts IsNewObtainPiece MayObtainPiece IsObtainPiece (IsPieceAt obtain_stages (obtain_made r.run.plan.geometry.now r.run.plan.made) r.run.plan.stage) (obtain_left (obtain_made r.run.plan.geometry.now r.run.plan.made) r.run.plan.stage)
    MayObtainOf IsObtainOf (obtain_made r.run.plan.geometry.now r.run.plan.made) r.run.piece

-- it awaits the answer that its piece awaits
abbrev pub AwaitsObtainRun : ObtainRun → Geometry → View → Own → Action → Type 0
AwaitsObtainRun r = IsRunning IsObtainPiece (AwaitsOr AwaitsPool AwaitsSweepRun r.run.piece) (IsPieceAt obtain_stages (obtain_made r.run.plan.geometry.now r.run.plan.made) r.run.plan.stage) (obtain_left (obtain_made r.run.plan.geometry.now r.run.plan.made) r.run.plan.stage) (λ g own outcome. IsObtain r.run.plan.made g own outcome) (obtain_parts r.run.piece)
