-- The ends after which a page is not to be tried again.
use Rattle.std.specs.Prelude.{ℕ, List, [], ◌∷◌}
use Rattle.nm_action.specs.Own.{Own}
use Rattle.nm_prepare.specs.declared.prepare.Prepared.{Prepared}
use Rattle.nm_prepare.specs.declared.prepare.Prepared.TheVariants as prepared
use Rattle.nm_commit.specs.declared.decide.Decided.{Decided}
use Rattle.nm_commit.specs.declared.decide.Decided.TheVariants as decided
use Rattle.nm_txn.specs.declared.end.TxnEnd.{TxnEnd}
use Rattle.nm_txn.specs.declared.end.TxnEnd.TheVariants as txn
use Rattle.nm_locked.specs.declared.choose.Chosen.{Chosen}
use Rattle.nm_locked.specs.declared.choose.Chosen.TheVariants as chosen
use Rattle.nm_locked.specs.declared.locked.LockedEnd.{LockedEnd}
use Rattle.nm_locked.specs.declared.locked.LockedEnd.TheVariants as locked
use Rattle.nm_marks.specs.Contents.{HasEvent}
use Rattle.nm_marks.specs.Marks.{IsTakenBack}

-- the steps up to the first flush ended the work
abbrev pub IsClosed : Prepared → Type 0
IsClosed prepared.Busy = ⊥
IsClosed (prepared.Closed why) = Unit {0}
IsClosed (prepared.Ready home frame) = ⊥

-- a transaction committed
abbrev pub IsCommitted : Decided → Type 0
IsCommitted decided.Committed = Unit {0}
IsCommitted (decided.Aborted word) = ⊥

-- a transaction is over, neither aborted nor refused by the lock of its page
abbrev pub IsTxnOver : TxnEnd → Type 0
IsTxnOver txn.Committed = Unit {0}
IsTxnOver (txn.Aborted word) = ⊥
IsTxnOver (txn.NoFrame n) = Unit {0}
IsTxnOver txn.Gone = Unit {0}
IsTxnOver txn.Worn = Unit {0}
IsTxnOver txn.Busy = ⊥

-- each piece of a batch has an end, and the page of a piece that is over so was taken back
abbrev pub ArePiecesBack : List (ℕ × ℕ) → List TxnEnd → Own → Type 0
ArePiecesBack [] ends own = Unit {0}
ArePiecesBack (piece ∷ pieces) [] own = ⊥
ArePiecesBack (piece ∷ pieces) (end ∷ ends) own = (IsTxnOver end → HasEvent (IsTakenBack piece.0) own) × ArePiecesBack pieces ends own

-- the first steps of a locked move ended it
abbrev pub IsChoiceClosed : Chosen → Type 0
IsChoiceClosed chosen.Busy = ⊥
IsChoiceClosed (chosen.Closed why) = Unit {0}
IsChoiceClosed (chosen.Ready home frame pages) = ⊥

-- a locked move is over, and was not refused by the lock of its page
abbrev pub IsMoveOver : LockedEnd → Type 0
IsMoveOver locked.Moved = Unit {0}
IsMoveOver (locked.NoFrame n) = Unit {0}
IsMoveOver locked.Gone = Unit {0}
IsMoveOver locked.Worn = Unit {0}
IsMoveOver locked.Busy = ⊥
