-- The locked move of a page, as a pattern over finished lists, the last step first.
use Rattle.std.specs.Prelude.{ℕ, List}
use Rattle.nm_base.specs.Geometry.{Geometry}
use Rattle.nm_action.specs.declared.action.Action.TheVariants.{Unlock, Mark}
use Rattle.nm_action.specs.Own.{Own}
use Rattle.nm_part.specs.Patterns.{Ends, Follows}
use Rattle.nm_compose.specs.Acts.{IsAct}
use Rattle.nm_pool.specs.Pool.{IsPool}
use Rattle.nm_pool.specs.declared.job.PoolJob.TheVariants.{Back}
use Rattle.nm_transfer.specs.Transferring.{transfer_made, IsTransfer}
use Rattle.nm_transfer.specs.declared.transfer.Source.TheVariants.{Copy}
use Rattle.nm_transfer.specs.declared.transfer.Rights.TheVariants.{Kept}
use Rattle.nm_transfer.specs.declared.transfer.TransferMade.{TransferMade}
use Rattle.nm_locked.specs.declared.choose.ChooseMade.{ChooseMade}
use Rattle.nm_locked.specs.declared.choose.Early.{Early}
use Rattle.nm_locked.specs.declared.choose.Early.TheVariants as early
use Rattle.nm_locked.specs.declared.choose.Chosen.{Chosen}
use Rattle.nm_locked.specs.declared.choose.Chosen.TheVariants as chosen
use Rattle.nm_locked.specs.declared.locked.LockedEnd.{LockedEnd}
use Rattle.nm_locked.specs.declared.locked.LockedEnd.TheVariants.{Moved, NoFrame, Gone, Worn, Busy}
use Rattle.nm_locked.specs.Choosing.{IsChoosing}

-- 12. The page is pending no more; it is unlocked; and the frame of its old home is put back.
abbrev pub GivesBackInMove : Geometry → ChooseMade → ℕ → Own → LockedEnd → Type 0
GivesBackInMove g made home = Follows (IsPool g (Back home)) (λ back. Ends Moved)

abbrev pub UnlocksMoved : Geometry → ChooseMade → ℕ → Own → LockedEnd → Type 0
UnlocksMoved g made home = Follows (IsAct (Unlock made.page) g) (λ unlocked. GivesBackInMove g made home)

abbrev pub MarksInMove : Geometry → ChooseMade → ℕ → Own → LockedEnd → Type 0
MarksInMove g made home = Follows (IsAct (Mark made.page 2 0) g) (λ marked. UnlocksMoved g made home)

-- 7 to 11. The page is taken out of the table, copied, and mapped to the new frame, with the words that were taken but for the
-- frame and the hint.
abbrev pub locked_transfer : Geometry → ChooseMade → ℕ → ℕ → List ℕ → TransferMade
locked_transfer g made home frame pages = transfer_made g made.page home frame Copy Kept pages

abbrev pub Moves : Geometry → ChooseMade → ℕ → ℕ → List ℕ → Own → LockedEnd → Type 0
Moves g made home frame pages = Follows (IsTransfer (locked_transfer g made home frame pages) g) (λ taken. MarksInMove g made home)

-- how a move ends that ended early
abbrev pub move_early_end : Early → LockedEnd
move_early_end (early.NoFrame n) = NoFrame n
move_early_end early.Gone = Gone
move_early_end early.Worn = Worn

-- 1 to 6. The steps before; where the page is not ready after them, the move ends.
abbrev pub AfterChoosing : Geometry → ChooseMade → Chosen → Own → LockedEnd → Type 0
AfterChoosing g made chosen.Busy = Ends Busy
AfterChoosing g made (chosen.Closed why) = Ends (move_early_end why)
AfterChoosing g made (chosen.Ready home frame pages) = Moves g made home frame pages

abbrev pub IsLockedInMove : ChooseMade → Geometry → Own → LockedEnd → Type 0
IsLockedInMove made g = Follows (IsChoosing made g) (AfterChoosing g made)
