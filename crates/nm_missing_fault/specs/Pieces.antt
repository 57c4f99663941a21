-- The pieces of the fault on a virtual page that is not mapped: the page is locked, a single action, a frame is sought, or
-- the words of a frame are set to 0.
use Rattle.std.specs.Prelude.{ℕ}
use Rattle.nm_base.specs.Geometry.{Geometry}
use Rattle.nm_action.specs.declared.action.Action.{Action}
use Rattle.nm_action.specs.declared.action.Reply.{Reply}
use Rattle.nm_action.specs.Own.{Own}
use Rattle.nm_view.specs.Views.{View}
use Rattle.nm_compose.specs.declared.act.Act.{Act}
use Rattle.nm_compose.specs.declared.or.Or.{Or}
use Rattle.nm_compose.specs.declared.or.Or.TheVariants.{This, Other}
use Rattle.nm_compose.specs.Acts.{MayAct, IsAct, IsActed}
use Rattle.nm_compose.specs.Choices.{or_made, IsNewOr, MayBeginOr, IsOr, LeavesOr}
use Rattle.nm_copying.specs.declared.zero_run.ZeroesRun.{ZeroesRun}
use Rattle.nm_copying.specs.declared.zeroes.ZeroesMade.{ZeroesMade}
use Rattle.nm_copying.specs.Runs.{zeroes_run_made, IsNewZeroesRun}
use Rattle.nm_copying.specs.Zeroing.{MayZeroes, IsZeroing, IsZeroed}
use Rattle.nm_reclaim.specs.Reclaims.{word_in}
use Rattle.nm_missing_fault.specs.declared.search.SearchMade.{SearchMade}
use Rattle.nm_missing_fault.specs.Searching.{IsSearch}
use Rattle.nm_missing_fault.specs.Found.{MaySearch, IsFound}
use Rattle.nm_missing_fault.specs.declared.search.SearchTask.{SearchTask}
use Rattle.nm_missing_fault.specs.SearchTasks.{search_of, IsNewSearch}
use Rattle.nm_shadow_fault.specs.declared.locks.Locks.{Locks}
use Rattle.nm_shadow_fault.specs.Locking.{LocksPage, MayLocks, LeavesLocked}

abbrev pub MissingPiece : Type 0
MissingPiece = Or Locks (Or Act (Or SearchTask ZeroesRun))

-- what they are made with, and how they end
abbrev pub MissingPieceMade : Type 0
MissingPieceMade = Or ℕ (Or Action (Or (Geometry × SearchMade) ZeroesMade))

abbrev pub MissingPieceEnd : Type 0
MissingPieceEnd = Or (Unit {0}) (Or Reply (Or ℕ (Unit {0})))

abbrev pub missing_piece_made : MissingPiece → MissingPieceMade
missing_piece_made = or_made (λ p. p.page) (or_made (λ a. a.action) (or_made search_of zeroes_run_made))

-- they have given no action

abbrev pub IsNewMissingPiece : MissingPiece → Type 0
IsNewMissingPiece = IsNewOr (λ p. Unit {0}) (IsNewOr (λ a. Unit {0}) (IsNewOr IsNewSearch IsNewZeroesRun))

-- when they may begin, their finished lists, and what they leave

abbrev pub MayMissingPiece : MissingPieceMade → Geometry → View → Type 0
MayMissingPiece = MayBeginOr MayLocks (MayBeginOr (λ action g view. MayAct g view action) (MayBeginOr (λ made g view. MaySearch made.0 made.1 g view) MayZeroes))

abbrev pub IsMissingPiece : MissingPieceMade → Geometry → Own → MissingPieceEnd → Type 0
IsMissingPiece = IsOr (λ page g. LocksPage page) (IsOr IsAct (IsOr (λ made g own frame. IsSearch made.1 g own frame) IsZeroing))

abbrev pub LeavesMissingPiece : MissingPieceMade → Geometry → View → MissingPieceEnd → View → Type 0
LeavesMissingPiece = LeavesOr (λ page g view end left. LeavesLocked page view left) (LeavesOr (λ action g view reply left. IsActed g view action reply left)
    (LeavesOr (λ made g view frame left. IsFound made.1 g view frame left) (λ made g view end left. IsZeroed made view left)))

-- the word of the reply with which a piece ended (0 where there is none, of which nothing is claimed)
abbrev pub missing_told : MissingPieceEnd → ℕ
missing_told (This end) = 0
missing_told (Other (This reply)) = word_in reply
missing_told (Other (Other end)) = 0

-- the frame that a search found (0 where the piece was none, of which nothing is claimed)
abbrev pub missing_found : MissingPieceEnd → ℕ
missing_found (This end) = 0
missing_found (Other (This reply)) = 0
missing_found (Other (Other (This frame))) = frame
missing_found (Other (Other (Other end))) = 0
