-- The question to the processors that runs: what it tells of itself, by names.
use Rattle.std.specs.Prelude.{◌≡◌, ℕ, []}
use Rattle.nm_base.specs.Geometry.{Geometry}
use Rattle.nm_action.specs.declared.action.Action.{Action}
use Rattle.nm_action.specs.Own.{Own}
use Rattle.nm_view.specs.Views.{View}
use Rattle.nm_compose.specs.Acts.{MayAct, IsAct}
use Rattle.nm_compose.specs.Composites.{HasFirst, IsRunning}
use Rattle.nm_compose.specs.Stages.{IsPieceAt}
use Rattle.nm_compose.specs.declared.act.Act.{Act}
use Rattle.nm_ended.specs.declared.run.AskRun.{AskRun}
use Rattle.nm_ended.specs.Asking.{MayAsk, IsAsking, ask_left, ask_stages}

-- how many processors are asked
abbrev pub ask_run_made : AskRun → ℕ
ask_run_made r = r.run.plan.cpus

-- when it may begin
abbrev pub MayAskRun : ℕ → Geometry → View → Type 0
MayAskRun cpus g view = MayAsk cpus g view

-- it has given no action
abbrev pub IsNewAskRun : AskRun → Type 0
IsNewAskRun r = HasFirst (λ (a : Act). a.action) (λ a. Unit {0}) (λ action g view. MayAct g view action) IsAct (IsPieceAt ask_stages r.run.plan.cpus r.run.plan.cpu) (ask_left r.run.plan.cpus r.run.plan.cpu) MayAskRun IsAsking r.run.plan.cpus r.run.piece

-- it awaits the answer that its action awaits
abbrev pub AwaitsAskRun : AskRun → Geometry → View → Own → Action → Type 0
AwaitsAskRun r = IsRunning IsAct (λ g view own action. (own ≡ []) × (action ≡ r.run.piece.action)) (IsPieceAt ask_stages r.run.plan.cpus r.run.plan.cpu) (ask_left r.run.plan.cpus r.run.plan.cpu) (IsAsking r.run.plan.cpus) r.run.piece.action
