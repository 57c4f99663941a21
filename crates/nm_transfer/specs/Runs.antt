-- A transfer that runs: what it tells of itself, by names.
use Rattle.nm_base.specs.Geometry.{Geometry}
use Rattle.nm_action.specs.declared.action.Action.{Action}
use Rattle.nm_action.specs.Own.{Own}
use Rattle.nm_view.specs.Views.{View}
use Rattle.nm_compose.specs.Choices.{AwaitsOr}
use Rattle.nm_compose.specs.Composites.{HasFirst, IsRunning}
use Rattle.nm_compose.specs.Stages.{IsPieceAt}
use Rattle.nm_compose.specs.Acts.{AwaitsAct}
use Rattle.nm_shoot.specs.Asking.{AwaitsShoot}
use Rattle.nm_copying.specs.Runs.{AwaitsCopiesRun}
use Rattle.nm_mappings.specs.Runs.{AwaitsVisits}
use Rattle.nm_transfer.specs.declared.transfer.TransferMade.{TransferMade}
use Rattle.nm_transfer.specs.declared.run.TransferRun.{TransferRun}
use Rattle.nm_transfer.specs.Transferring.{IsTransfer}
use Rattle.nm_transfer.specs.Moving.{MayTransfer}
use Rattle.nm_transfer.specs.Stages.{transfer_piece_made, IsNewTransferPiece, MayTransferPiece, IsTransferPiece, transfer_place, transfer_left, transfer_stages}

abbrev pub transfer_run_made : TransferRun → TransferMade
transfer_run_made r = r.run.plan.made

-- it has given no action
abbrev pub IsNewTransferRun : TransferRun → Type 0
IsNewTransferRun r = HasFirst transfer_piece_made IsNewTransferPiece MayTransferPiece IsTransferPiece (IsPieceAt transfer_stages r.run.plan.made (transfer_place r.run.plan)) (transfer_left r.run.plan.made (transfer_place r.run.plan)) MayTransfer IsTransfer r.run.plan.made r.run.piece

-- it awaits the answer that its piece awaits
abbrev pub AwaitsTransferRun : TransferRun → Geometry → View → Own → Action → Type 0
AwaitsTransferRun r = IsRunning IsTransferPiece (AwaitsOr AwaitsAct (AwaitsOr AwaitsVisits (AwaitsOr AwaitsShoot AwaitsCopiesRun)) r.run.piece) (IsPieceAt transfer_stages r.run.plan.made (transfer_place r.run.plan)) (transfer_left r.run.plan.made (transfer_place r.run.plan)) (IsTransfer r.run.plan.made) (transfer_piece_made r.run.piece)
