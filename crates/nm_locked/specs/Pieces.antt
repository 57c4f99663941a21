-- The pieces of a locked move.
use Rattle.std.specs.Prelude.{◌≡◌, ℕ, List}
use Rattle.nm_base.specs.Geometry.{Geometry}
use Rattle.nm_action.specs.declared.action.Action.{Action}
use Rattle.nm_action.specs.declared.action.Reply.{Reply}
use Rattle.nm_action.specs.Own.{Own}
use Rattle.nm_view.specs.Views.{View}
use Rattle.nm_compose.specs.Acts.{MayAct, IsAct, IsActed}
use Rattle.nm_compose.specs.Choices.{or_made, IsNewOr, MayBeginOr, IsOr, LeavesOr}
use Rattle.nm_compose.specs.declared.act.Act.{Act}
use Rattle.nm_compose.specs.declared.or.Or.{Or}
use Rattle.nm_pool.specs.Given.{MayBegin, Leaves}
use Rattle.nm_pool.specs.Stages.{made_of, IsNewPool}
use Rattle.nm_pool.specs.declared.job.PoolMade.{PoolMade}
use Rattle.nm_pool.specs.declared.job.PoolEnd.{PoolEnd}
use Rattle.nm_pool.specs.declared.task.PoolTask.{PoolTask}
use Rattle.nm_transfer.specs.declared.transfer.TransferMade.{TransferMade}
use Rattle.nm_transfer.specs.Transferring.{IsTransfer}
use Rattle.nm_transfer.specs.Moving.{MayTransfer, IsTransferred}
use Rattle.nm_locked.specs.declared.choose.ChooseMade.{ChooseMade}
use Rattle.nm_locked.specs.declared.choose.Chosen.{Chosen}
use Rattle.nm_locked.specs.Chosen.{IsChosen}
use Rattle.nm_locked.specs.declared.choose_run.ChooseRun.{ChooseRun}
use Rattle.nm_locked.specs.ChooseRuns.{MayChooseOf, IsChoosingOf, choose_run_made, IsNewChooseRun}
use Rattle.nm_transfer.specs.declared.run.TransferRun.{TransferRun}
use Rattle.nm_transfer.specs.Runs.{transfer_run_made, IsNewTransferRun}
use Rattle.nm_locked.specs.Stages.{IsPoolOf}

abbrev pub LockedParts : Type 0
LockedParts = Or (Geometry × ChooseMade) (Or TransferMade (Or Action PoolMade))

abbrev pub LockedPieceEnd : Type 0
LockedPieceEnd = Or Chosen (Or (List (ℕ × ℕ)) (Or Reply PoolEnd))

abbrev pub MayLockedPiece : LockedParts → Geometry → View → Type 0
MayLockedPiece = MayBeginOr MayChooseOf (MayBeginOr MayTransfer (MayBeginOr (λ action g view. MayAct g view action) MayBegin))

abbrev pub IsLockedPiece : LockedParts → Geometry → Own → LockedPieceEnd → Type 0
IsLockedPiece = IsOr IsChoosingOf (IsOr IsTransfer (IsOr IsAct IsPoolOf))

abbrev pub LockedPieceLeaves : LockedParts → Geometry → View → LockedPieceEnd → View → Type 0
LockedPieceLeaves = LeavesOr (λ made g view outcome left. IsChosen made.1 g view outcome left)
    (LeavesOr (λ made g view taken left. IsTransferred made g view taken left)
    (LeavesOr (λ action g view reply left. IsActed g view action reply left) (λ made g view end left. Leaves g made.job view end left)))

abbrev pub LockedPiece : Type 0
LockedPiece = Or ChooseRun (Or TransferRun (Or Act PoolTask))

-- the data of a piece, and that it has given no action
abbrev pub locked_parts : LockedPiece → LockedParts
locked_parts = or_made choose_run_made (or_made transfer_run_made (or_made (λ a. a.action) made_of))

abbrev pub IsNewLockedPiece : LockedPiece → Type 0
IsNewLockedPiece = IsNewOr IsNewChooseRun (IsNewOr IsNewTransferRun (IsNewOr (λ a. Unit {0}) IsNewPool))
