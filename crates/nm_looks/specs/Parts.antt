-- Looks and Softens as parts: what each tells of itself, by names.
use Rattle.std.specs.Prelude.{ℕ, List}
use Rattle.nm_base.specs.Geometry.{Geometry}
use Rattle.nm_action.specs.declared.action.Action.{Action}
use Rattle.nm_action.specs.Own.{Own}
use Rattle.nm_view.specs.Views.{View}
use Rattle.nm_compose.specs.Acts.{MayAct, IsAct, AwaitsAct}
use Rattle.nm_compose.specs.Composites.{HasFirst, IsRunning}
use Rattle.nm_compose.specs.Stages.{IsPieceAt}
use Rattle.nm_compose.specs.declared.act.Act.{Act}
use Rattle.nm_vpages.specs.VPages.{vpages_of}
use Rattle.nm_looks.specs.declared.run.LooksRun.{LooksRun}
use Rattle.nm_looks.specs.declared.run.SoftensRun.{SoftensRun}
use Rattle.nm_looks.specs.Seeing.{LooksData, tier_looks_made, IsLooks, MayLooks}
use Rattle.nm_looks.specs.Looking.{looks_data, looks_place, looks_left, looks_stages}
use Rattle.nm_looks.specs.Softening.{IsSoftens, MaySoften, softens_left, softens_stages}

-- the Looks at all virtual pages of a page, which ask for this tier
abbrev pub page_looks : Geometry → ℕ → ℕ → LooksData
page_looks g page tier = record { 0 = g; 1 = tier_looks_made page tier (vpages_of g page) }

-- Looks: what they were made with, that they have given no action, and that they await the answer that their action awaits.

abbrev pub looks_run_made : LooksRun → LooksData
looks_run_made r = looks_data r.run.plan

abbrev pub IsNewLooksRun : LooksRun → Type 0
IsNewLooksRun r = HasFirst (λ (a : Act). a.action) (λ a. Unit {0}) (λ action g view. MayAct g view action) IsAct (IsPieceAt looks_stages (looks_data r.run.plan) (looks_place r.run.plan)) (looks_left (looks_data r.run.plan) (looks_place r.run.plan)) MayLooks IsLooks (looks_data r.run.plan) r.run.piece

abbrev pub AwaitsLooksRun : LooksRun → Geometry → View → Own → Action → Type 0
AwaitsLooksRun r = IsRunning IsAct (AwaitsAct r.run.piece) (IsPieceAt looks_stages (looks_data r.run.plan) (looks_place r.run.plan)) (looks_left (looks_data r.run.plan) (looks_place r.run.plan)) (IsLooks (looks_data r.run.plan)) r.run.piece.action

-- Softens, likewise.

abbrev pub softens_run_made : SoftensRun → List ℕ
softens_run_made r = r.run.plan.pages

abbrev pub IsNewSoftensRun : SoftensRun → Type 0
IsNewSoftensRun r = HasFirst (λ (a : Act). a.action) (λ a. Unit {0}) (λ action g view. MayAct g view action) IsAct (IsPieceAt softens_stages r.run.plan.pages r.run.plan.at) (softens_left r.run.plan.pages r.run.plan.at) MaySoften IsSoftens r.run.plan.pages r.run.piece

abbrev pub AwaitsSoftensRun : SoftensRun → Geometry → View → Own → Action → Type 0
AwaitsSoftensRun r = IsRunning IsAct (AwaitsAct r.run.piece) (IsPieceAt softens_stages r.run.plan.pages r.run.plan.at) (softens_left r.run.plan.pages r.run.plan.at) (IsSoftens r.run.plan.pages) r.run.piece.action
