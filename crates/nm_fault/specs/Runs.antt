-- The two faults, each as a part.
use Rattle.nm_base.specs.Geometry.{Geometry}
use Rattle.nm_action.specs.declared.action.Action.{Action}
use Rattle.nm_action.specs.Own.{Own}
use Rattle.nm_view.specs.Views.{View}
use Rattle.nm_compose.specs.Acts.{AwaitsAct}
use Rattle.nm_compose.specs.Choices.{AwaitsOr}
use Rattle.nm_compose.specs.Composites.{HasFirst, IsRunning}
use Rattle.nm_compose.specs.Stages.{IsPieceAt}
use Rattle.nm_prepare.specs.Placing.{IsPlanPlaced}
use Rattle.nm_pool.specs.Stages.{AwaitsPool}
use Rattle.nm_copying.specs.Runs.{AwaitsZeroesRun}
use Rattle.nm_shadow_fault.specs.declared.locks.Locks.{Locks}
use Rattle.nm_shadow_fault.specs.Locking.{AwaitsLock}
use Rattle.nm_shadow_fault.specs.ShadowFault.{IsShadowFault}
use Rattle.nm_shadow_fault.specs.Granting.{FaultsMade, fault_made, MayFault, fault_piece_made, IsNewFaultPiece, MayFaultPiece, IsFaultPiece, fault_left, shadow_stages}
use Rattle.nm_missing_fault.specs.SearchTasks.{AwaitsSearch}
use Rattle.nm_missing_fault.specs.MissingFault.{IsMissingFault}
use Rattle.nm_missing_fault.specs.Pieces.{missing_piece_made, IsNewMissingPiece, MayMissingPiece, IsMissingPiece}
use Rattle.nm_missing_fault.specs.Stages.{missing_piece_of, missing_left, KnownInMissing}
use Rattle.nm_fault.specs.declared.run.MissingTask.{MissingTask}
use Rattle.nm_fault.specs.declared.run.ShadowTask.{ShadowTask}

-- a page that is locked, as a piece, awaits an answer
abbrev pub LockAwaits : Locks → Geometry → View → Own → Action → Type 0
LockAwaits p = AwaitsLock p.page

-- The missing fault: what it was begun with, in which geometry; that it has given no action; that it awaits an answer.

abbrev pub missing_of : MissingTask → FaultsMade
missing_of t = fault_made t.run.plan.geometry.now t.run.plan.made

abbrev pub IsNewMissing : MissingTask → Type 0
IsNewMissing t = HasFirst missing_piece_made IsNewMissingPiece MayMissingPiece IsMissingPiece (IsPlanPlaced missing_piece_of KnownInMissing t.run.plan.geometry.now t.run.plan.made t.run.plan.stage) (missing_left t.run.plan.made t.run.plan.stage)
    MayFault (λ (made : FaultsMade). IsMissingFault made.1) (missing_of t) t.run.piece

abbrev pub AwaitsMissing : MissingTask → Geometry → View → Own → Action → Type 0
AwaitsMissing t = IsRunning IsMissingPiece (AwaitsOr LockAwaits (AwaitsOr AwaitsAct (AwaitsOr AwaitsSearch AwaitsZeroesRun)) t.run.piece) (IsPlanPlaced missing_piece_of KnownInMissing t.run.plan.geometry.now t.run.plan.made t.run.plan.stage) (missing_left t.run.plan.made t.run.plan.stage)
    (IsMissingFault t.run.plan.made) (missing_piece_made t.run.piece)

-- The fault on a page that is read-only for its shadow, likewise.

abbrev pub shadow_of : ShadowTask → FaultsMade
shadow_of t = fault_made t.run.plan.geometry.now t.run.plan.made

abbrev pub IsNewShadow : ShadowTask → Type 0
IsNewShadow t = HasFirst fault_piece_made IsNewFaultPiece MayFaultPiece IsFaultPiece (IsPieceAt shadow_stages (shadow_of t) t.run.plan.stage) (fault_left (shadow_of t) t.run.plan.stage)
    MayFault (λ (made : FaultsMade). IsShadowFault made.1) (shadow_of t) t.run.piece

abbrev pub AwaitsShadow : ShadowTask → Geometry → View → Own → Action → Type 0
AwaitsShadow t = IsRunning IsFaultPiece (AwaitsOr LockAwaits (AwaitsOr AwaitsAct AwaitsPool) t.run.piece) (IsPieceAt shadow_stages (shadow_of t) t.run.plan.stage) (fault_left (shadow_of t) t.run.plan.stage)
    (IsShadowFault t.run.plan.made) (fault_piece_made t.run.piece)
