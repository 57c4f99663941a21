-- The pieces of a demotion.
use Rattle.std.specs.Prelude.{ℕ, List}
use Rattle.nm_base.specs.Geometry.{Geometry}
use Rattle.nm_action.specs.declared.action.Action.{Action}
use Rattle.nm_action.specs.declared.action.Reply.{Reply}
use Rattle.nm_action.specs.Own.{Own}
use Rattle.nm_view.specs.Views.{View}
use Rattle.nm_compose.specs.Acts.{MayAct, IsAct, IsActed}
use Rattle.nm_compose.specs.Choices.{or_made, IsNewOr, MayBeginOr, IsOr, LeavesOr}
use Rattle.nm_compose.specs.declared.act.Act.{Act}
use Rattle.nm_compose.specs.declared.or.Or.{Or}
use Rattle.nm_pool.specs.Given.{MayBegin, Leaves}
use Rattle.nm_pool.specs.Stages.{made_of, IsNewPool}
use Rattle.nm_pool.specs.declared.job.PoolMade.{PoolMade}
use Rattle.nm_pool.specs.declared.job.PoolEnd.{PoolEnd}
use Rattle.nm_pool.specs.declared.task.PoolTask.{PoolTask}
use Rattle.nm_transfer.specs.declared.transfer.TransferMade.{TransferMade}
use Rattle.nm_transfer.specs.Transferring.{IsTransfer}
use Rattle.nm_transfer.specs.Moving.{MayTransfer, IsTransferred}
use Rattle.nm_locked.specs.Stages.{IsPoolOf}
use Rattle.nm_transfer.specs.declared.run.TransferRun.{TransferRun}
use Rattle.nm_transfer.specs.Runs.{transfer_run_made, IsNewTransferRun}
use Rattle.nm_demote.specs.declared.select.DemoteMade.{DemoteMade}
use Rattle.nm_demote.specs.declared.select.Selected.{Selected}
use Rattle.nm_demote.specs.Selections.{IsSelected}
use Rattle.nm_demote.specs.declared.select_task.SelectTask.{SelectTask}
use Rattle.nm_demote.specs.SelectTasks.{select_of, IsNewSelection, MaySelectOf, IsSelectingOf}

abbrev pub DemoteParts : Type 0
DemoteParts = Or (Geometry × DemoteMade) (Or TransferMade (Or Action PoolMade))

abbrev pub DemotePieceEnd : Type 0
DemotePieceEnd = Or Selected (Or (List (ℕ × ℕ)) (Or Reply PoolEnd))

abbrev pub MayDemotePiece : DemoteParts → Geometry → View → Type 0
MayDemotePiece = MayBeginOr MaySelectOf (MayBeginOr MayTransfer (MayBeginOr (λ action g view. MayAct g view action) MayBegin))

abbrev pub IsDemotePiece : DemoteParts → Geometry → Own → DemotePieceEnd → Type 0
IsDemotePiece = IsOr IsSelectingOf (IsOr IsTransfer (IsOr IsAct IsPoolOf))

abbrev pub DemotePieceLeaves : DemoteParts → Geometry → View → DemotePieceEnd → View → Type 0
DemotePieceLeaves = LeavesOr (λ made g view outcome left. IsSelected made.1 g view outcome left)
    (LeavesOr (λ made g view taken left. IsTransferred made g view taken left)
    (LeavesOr (λ action g view reply left. IsActed g view action reply left) (λ made g view end left. Leaves g made.job view end left)))

abbrev pub DemotePiece : Type 0
DemotePiece = Or SelectTask (Or TransferRun (Or Act PoolTask))

-- the data of a piece, and that it has given no action
abbrev pub demote_parts : DemotePiece → DemoteParts
demote_parts = or_made select_of (or_made transfer_run_made (or_made (λ a. a.action) made_of))

abbrev pub IsNewDemotePiece : DemotePiece → Type 0
IsNewDemotePiece = IsNewOr IsNewSelection (IsNewOr IsNewTransferRun (IsNewOr (λ a. Unit {0}) IsNewPool))
