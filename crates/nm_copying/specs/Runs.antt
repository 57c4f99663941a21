-- A copy and a zeroing that run: what they tell of themselves, by names.
use Rattle.nm_base.specs.Geometry.{Geometry}
use Rattle.nm_action.specs.declared.action.Action.{Action}
use Rattle.nm_action.specs.Own.{Own}
use Rattle.nm_view.specs.Views.{View}
use Rattle.nm_compose.specs.Acts.{MayAct, IsAct, AwaitsAct}
use Rattle.nm_compose.specs.Composites.{HasFirst, IsRunning}
use Rattle.nm_compose.specs.Stages.{IsPieceAt}
use Rattle.nm_compose.specs.declared.act.Act.{Act}
use Rattle.nm_copying.specs.declared.copies.CopiesMade.{CopiesMade}
use Rattle.nm_copying.specs.declared.zeroes.ZeroesMade.{ZeroesMade}
use Rattle.nm_copying.specs.declared.copy_run.CopiesRun.{CopiesRun}
use Rattle.nm_copying.specs.declared.zero_run.ZeroesRun.{ZeroesRun}
use Rattle.nm_copying.specs.Copying.{IsCopying, MayCopies, copies_left, copies_stages}
use Rattle.nm_copying.specs.Zeroing.{IsZeroing, MayZeroes, zeroes_left, zeroes_stages}

abbrev pub copies_run_made : CopiesRun → CopiesMade
copies_run_made r = r.run.plan.made

-- it has given no action
abbrev pub IsNewCopiesRun : CopiesRun → Type 0
IsNewCopiesRun r = HasFirst (λ (a : Act). a.action) (λ a. Unit {0}) (λ action g view. MayAct g view action) IsAct (IsPieceAt copies_stages r.run.plan.made r.run.plan.stage) (copies_left r.run.plan.made r.run.plan.stage) MayCopies IsCopying r.run.plan.made r.run.piece

-- it awaits the answer to an action at a word
abbrev pub AwaitsCopiesRun : CopiesRun → Geometry → View → Own → Action → Type 0
AwaitsCopiesRun r = IsRunning IsAct (AwaitsAct r.run.piece) (IsPieceAt copies_stages r.run.plan.made r.run.plan.stage) (copies_left r.run.plan.made r.run.plan.stage) (IsCopying r.run.plan.made) r.run.piece.action

abbrev pub zeroes_run_made : ZeroesRun → ZeroesMade
zeroes_run_made r = r.run.plan.made

-- it has given no action
abbrev pub IsNewZeroesRun : ZeroesRun → Type 0
IsNewZeroesRun r = HasFirst (λ (a : Act). a.action) (λ a. Unit {0}) (λ action g view. MayAct g view action) IsAct (IsPieceAt zeroes_stages r.run.plan.made r.run.plan.stage) (zeroes_left r.run.plan.made r.run.plan.stage) MayZeroes IsZeroing r.run.plan.made r.run.piece

-- it awaits the answer to an action at a word
abbrev pub AwaitsZeroesRun : ZeroesRun → Geometry → View → Own → Action → Type 0
AwaitsZeroesRun r = IsRunning IsAct (AwaitsAct r.run.piece) (IsPieceAt zeroes_stages r.run.plan.made r.run.plan.stage) (zeroes_left r.run.plan.made r.run.plan.stage) (IsZeroing r.run.plan.made) r.run.piece.action
