-- The pieces of transactions: the steps up to the first flush, a shootdown, the copy of the page, the unmapping, and the
-- decision.
use Rattle.std.specs.Prelude.{ℕ}
use Rattle.nm_base.specs.Geometry.{Geometry}
use Rattle.nm_action.specs.Own.{Own}
use Rattle.nm_view.specs.Views.{View}
use Rattle.nm_compose.specs.Choices.{or_made, IsNewOr, MayBeginOr, IsOr, LeavesOr}
use Rattle.nm_compose.specs.declared.or.Or.{Or}
use Rattle.nm_shoot.specs.Shootdown.{IsShootdown}
use Rattle.nm_shoot.specs.Flushed.{MayShoot, IsFlushed}
use Rattle.nm_shoot.specs.Asking.{cpus_of, IsNewShoot}
use Rattle.nm_shoot.specs.declared.shoot.Shoot.{Shoot}
use Rattle.nm_copying.specs.Copying.{IsCopying, MayCopies, IsCopied}
use Rattle.nm_copying.specs.declared.copies.CopiesMade.{CopiesMade}
use Rattle.nm_copying.specs.declared.copy_run.CopiesRun.{CopiesRun}
use Rattle.nm_copying.specs.Runs.{copies_run_made, IsNewCopiesRun}
use Rattle.nm_prepare.specs.Ready.{IsPrepared}
use Rattle.nm_prepare.specs.declared.prepare.PrepareMade.{PrepareMade}
use Rattle.nm_prepare.specs.declared.prepare.Prepared.{Prepared}
use Rattle.nm_prepare.specs.declared.run.PrepareRun.{PrepareRun}
use Rattle.nm_prepare.specs.Runs.{MayPrepareOf, IsPrepareOf, prepare_run_made, IsNewPrepareRun}
use Rattle.nm_commit.specs.Unmapping.{UnmapsOne, MayUnmapping, IsUnmappedOne}
use Rattle.nm_commit.specs.Deciding.{IsDecision}
use Rattle.nm_commit.specs.declared.unmap.UnmapMade.{UnmapMade}
use Rattle.nm_commit.specs.declared.decide.DecideMade.{DecideMade}
use Rattle.nm_commit.specs.declared.decide.Decided.{Decided}
use Rattle.nm_commit.specs.declared.unmap_run.UnmapRun.{UnmapRun}
use Rattle.nm_commit.specs.declared.decide_run.DecideRun.{DecideRun}
use Rattle.nm_commit.specs.Runs.{unmap_run_made, IsNewUnmapRun, MayDecideOf, IsDecidingOf, decide_run_made, IsNewDecideRun}

abbrev pub TxnPiece : Type 0
TxnPiece = Or PrepareRun (Or Shoot (Or CopiesRun (Or UnmapRun DecideRun)))

-- what they are made with, and how they end
abbrev pub TxnParts : Type 0
TxnParts = Or (Geometry × PrepareMade) (Or ℕ (Or CopiesMade (Or UnmapMade (Geometry × DecideMade))))

abbrev pub TxnEnds : Type 0
TxnEnds = Or Prepared (Or ℕ (Or (Unit {0}) (Or ℕ Decided)))

abbrev pub txn_parts : TxnPiece → TxnParts
txn_parts = or_made prepare_run_made (or_made cpus_of (or_made copies_run_made (or_made unmap_run_made decide_run_made)))

-- they have given no action
abbrev pub IsNewTxnPiece : TxnPiece → Type 0
IsNewTxnPiece = IsNewOr IsNewPrepareRun (IsNewOr IsNewShoot (IsNewOr IsNewCopiesRun (IsNewOr IsNewUnmapRun IsNewDecideRun)))

-- when they may begin, their finished lists, and what they leave

abbrev pub MayTxnPiece : TxnParts → Geometry → View → Type 0
MayTxnPiece = MayBeginOr MayPrepareOf (MayBeginOr MayShoot (MayBeginOr MayCopies (MayBeginOr MayUnmapping MayDecideOf)))

abbrev pub IsTxnPiece : TxnParts → Geometry → Own → TxnEnds → Type 0
IsTxnPiece = IsOr IsPrepareOf (IsOr (λ cpus g own number. IsShootdown cpus own number) (IsOr IsCopying (IsOr UnmapsOne IsDecidingOf)))

abbrev pub TxnPieceLeaves : TxnParts → Geometry → View → TxnEnds → View → Type 0
TxnPieceLeaves = LeavesOr (λ made g view outcome left. IsPrepared made.1 g view outcome left) (LeavesOr (λ cpus g view number left. IsFlushed g view number left) (LeavesOr (λ made g view end left. IsCopied made view left) (LeavesOr IsUnmappedOne (λ made g view outcome left. IsDecision made.1 view left))))
