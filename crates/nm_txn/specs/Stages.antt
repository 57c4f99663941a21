-- How far a transaction has come.
use Rattle.std.specs.Prelude.{◌≡◌, ◌≢◌, ℕ, ◌+◌, ◌<◌, List, [], ◌∷◌, Option, Some, None, IsSomeAnd, IsTrue, true, false}
use Rattle.nm_base.specs.Geometry.{Geometry, IsWritable, backing_page}
use Rattle.nm_base.specs.Ranges.{IsFrame}
use Rattle.nm_base.specs.HomeWord.{home_word}
use Rattle.nm_base.specs.PageWord.{is_writable, is_saved}
use Rattle.nm_action.specs.Own.{Own}
use Rattle.nm_view.specs.declared.view.Phase.TheVariants.{Cleared, Taken}
use Rattle.nm_view.specs.declared.view.Fill.{Fill}
use Rattle.nm_view.specs.declared.view.Fill.TheVariants.{Raw, Copied}
use Rattle.nm_view.specs.declared.view.Owned.{Owned}
use Rattle.nm_view.specs.declared.view.Scanned.{Scanned}
use Rattle.nm_view.specs.Lists.{find, first}
use Rattle.nm_view.specs.Views.{Op, View}
use Rattle.nm_view.specs.Operations.{IsFlushEnded}
use Rattle.nm_permit.specs.Permitted.{IsFreeOfShadow}
use Rattle.nm_event.specs.After.{owning}
use Rattle.nm_event.specs.Fitting.{IsNotOwned}
use Rattle.nm_part.specs.Patterns.{Ends}
use Rattle.nm_compose.specs.declared.or.Or.TheVariants.{This, Other}
use Rattle.nm_prepare.specs.Worn.{is_worn}
use Rattle.nm_prepare.specs.Ready.{IsNewFrame, HasReady}
use Rattle.nm_prepare.specs.declared.prepare.PrepareMade.{PrepareMade}
use Rattle.nm_prepare.specs.declared.prepare.Prepared.{Prepared}
use Rattle.nm_commit.specs.Deciding.{IsSwapped}
use Rattle.nm_commit.specs.declared.decide.DecideMade.{DecideMade}
use Rattle.nm_commit.specs.declared.decide.Decided.{Decided}
use Rattle.nm_txn.specs.declared.end.TxnEnd.{TxnEnd}
use Rattle.nm_txn.specs.declared.end.TxnEnd.TheVariants.{Busy}
use Rattle.nm_txn.specs.declared.txn.TxnStage.{TxnStage}
use Rattle.nm_txn.specs.declared.txn.TxnStage.TheVariants.{Idle, Preparing, Flushing, Copying, Unmapping, FlushingAgain, Deciding}
use Rattle.nm_txn.specs.Transactions.{decided_end, AfterPrepare, Copies, Unmaps, FlushesAgain, Decides}
use Rattle.nm_txn.specs.Leaving.{MayTxn}
use Rattle.nm_txn.specs.Pieces.{TxnParts, TxnEnds}

-- the decision of a transaction
abbrev pub deciding : PrepareMade → ℕ → ℕ → ℕ → DecideMade
deciding made home frame word = record { page = made.page; vpage = made.vpage; word = word; home = home; frame = frame }

-- the piece of a stage
abbrev pub txn_piece : Geometry → PrepareMade → TxnStage → TxnParts
txn_piece g made Idle = This (record { 0 = g; 1 = made })
txn_piece g made Preparing = This (record { 0 = g; 1 = made })
txn_piece g made (Flushing home frame) = Other (This g.cpus)
txn_piece g made (Copying home frame) = Other (Other (This (record { page = made.page; frame = frame; words = g.words })))
txn_piece g made (Unmapping home frame) = Other (Other (Other (This (record { page = made.page; vpage = made.vpage }))))
txn_piece g made (FlushingAgain home frame word) = Other (This g.cpus)
txn_piece g made (Deciding home frame word) = Other (Other (Other (Other (record { 0 = g; 1 = deciding made home frame word }))))

-- the word that the unmapping took (0 where the piece was none, of which nothing is claimed)
abbrev pub txn_word_in : TxnEnds → ℕ
txn_word_in (This end) = 0
txn_word_in (Other (This number)) = 0
txn_word_in (Other (Other (This end))) = 0
txn_word_in (Other (Other (Other (This word)))) = word
txn_word_in (Other (Other (Other (Other end)))) = 0

-- the end of the decision (Busy where the piece was none, of which nothing is claimed)
abbrev pub end_in : TxnEnds → TxnEnd
end_in (This end) = Busy
end_in (Other (This number)) = Busy
end_in (Other (Other (This end))) = Busy
end_in (Other (Other (Other (This word)))) = Busy
end_in (Other (Other (Other (Other decided)))) = decided_end decided

-- What is left after the piece of a stage, by how it ends.

abbrev pub NothingInTxn : {O : Type 0} → Own → O → Type 0
NothingInTxn own outcome = ⊥

abbrev pub by_prepared : {O : Type 0} → (Prepared → Own → O → Type 0) → TxnEnds → Own → O → Type 0
by_prepared after (This end) = after end
by_prepared after (Other end) = NothingInTxn

abbrev pub by_flushed : {O : Type 0} → (Own → O → Type 0) → TxnEnds → Own → O → Type 0
by_flushed after (This end) = NothingInTxn
by_flushed after (Other (This number)) = after
by_flushed after (Other (Other end)) = NothingInTxn

abbrev pub by_copied : {O : Type 0} → (Own → O → Type 0) → TxnEnds → Own → O → Type 0
by_copied after (This end) = NothingInTxn
by_copied after (Other (This number)) = NothingInTxn
by_copied after (Other (Other (This end))) = after
by_copied after (Other (Other (Other end))) = NothingInTxn

abbrev pub by_taken : {O : Type 0} → (ℕ → Own → O → Type 0) → TxnEnds → Own → O → Type 0
by_taken after (This end) = NothingInTxn
by_taken after (Other (This number)) = NothingInTxn
by_taken after (Other (Other (This end))) = NothingInTxn
by_taken after (Other (Other (Other (This word)))) = after word
by_taken after (Other (Other (Other (Other end)))) = NothingInTxn

abbrev pub by_decided : {O : Type 0} → (Decided → Own → O → Type 0) → TxnEnds → Own → O → Type 0
by_decided after (This end) = NothingInTxn
by_decided after (Other (This number)) = NothingInTxn
by_decided after (Other (Other (This end))) = NothingInTxn
by_decided after (Other (Other (Other (This word)))) = NothingInTxn
by_decided after (Other (Other (Other (Other decided)))) = after decided

abbrev pub txn_left : PrepareMade → TxnStage → Geometry → TxnEnds → Own → TxnEnd → Type 0
txn_left made Idle g = by_prepared (λ end. NothingInTxn)
txn_left made Preparing g = by_prepared (AfterPrepare g made)
txn_left made (Flushing home frame) g = by_flushed (Copies g made home frame)
txn_left made (Copying home frame) g = by_copied (Unmaps g made home frame)
txn_left made (Unmapping home frame) g = by_taken (FlushesAgain g made home frame)
txn_left made (FlushingAgain home frame word) g = by_flushed (Decides g made home frame word)
txn_left made (Deciding home frame word) g = by_decided (λ decided. Ends (decided_end decided))

-- What is known of the views.

-- an operation of a transaction whose dirty bit is cleared, after the first flush
pub record IsClearedOp (g : Geometry) (page v home : ℕ) (o : Op) : Type 0 where
  pub page_is : o.page ≡ page
  pub home_is : o.home ≡ Some (home_word home)
  pub shadow : IsFreeOfShadow g o
  pub looked : IsSomeAnd (find first v o.looked) (λ p. p.1 ≢ 0)
  pub taken : o.taken ≡ []
  pub phase : o.phase ≡ Cleared
  pub cleared : o.cleared ≡ true
  pub moved : o.moved ≡ false
  pub dry : o.wet ≡ []
  pub flushed : IsFlushEnded g o

-- one of which no word is copied yet
pub record IsUncopiedOp (g : Geometry) (page v home : ℕ) (o : Op) : Type 0 where
  pub op : IsClearedOp g page v home o
  pub copied : o.copied ≡ 0
  pub last : o.last ≡ None

-- one whose word was taken, before the second flush
pub record IsTakenOp (g : Geometry) (page v word home : ℕ) (o : Op) : Type 0 where
  pub page_is : o.page ≡ page
  pub home_is : o.home ≡ Some (home_word home)
  pub shadow : IsFreeOfShadow g o
  pub taken : o.taken ≡ (v, word) ∷ []
  pub phase : o.phase ≡ Taken
  pub cleared : o.cleared ≡ true
  pub moved : o.moved ≡ false
  pub due : o.due ≡ true
  pub dry : o.wet ≡ []

-- what holds from the first flush on: of the page, of its home, of the new frame, and of what the actor has drawn
pub record IsMoving (made : PrepareMade) (g : Geometry) (view : View) (home frame : ℕ) : Type 0 where
  pub may : MayTxn g made g view
  pub worn : is_worn made.spent ≡ false
  pub backing : backing_page g made.vpage ≡ Some made.page
  pub range : IsFrame g home
  pub unowned : IsNotOwned view home
  pub new : IsNewFrame g home frame view

-- the right to write that the taken word has, v has
pub record IsRightful (g : Geometry) (v word : ℕ) : Type 0 where
  pub writable : IsTrue (is_writable word) → IsWritable g v
  pub saved : IsTrue (is_saved word) → IsWritable g v

-- the view with this operation alone, these frames owned, this scan, and so many bumps and raises more
abbrev pub moving : Op → List Owned → Scanned → ℕ → ℕ → View → View
moving op owned scan bumps raises view = record view { ops = op ∷ []; owned = owned; scan = scan; bumps = view.bumps + bumps; raises = view.raises + raises }

-- the operation is of this kind, and the new frame has this fill
pub record IsMovingWith (made : PrepareMade) (g : Geometry) (view now : View) (home frame : ℕ) (Kind : Op → Type 0) (fill : Fill) (bumps raises : ℕ) : Type 0 where
  pub facts : IsMoving made g view home frame
  pub op : Op
  pub kind : Kind op
  pub scan : Scanned
  pub is : now ≡ moving op (owning frame fill view.owned) scan bumps raises view

-- it has begun
pub record IsTxnBegun (made : PrepareMade) (g : Geometry) (view now : View) : Type 0 where
  pub may : MayTxn g made g view
  pub begun : now ≡ view

-- the page is ready for the first flush
pub record IsReadied (made : PrepareMade) (g : Geometry) (view now : View) (home frame : ℕ) : Type 0 where
  pub may : MayTxn g made g view
  pub ready : HasReady made g view home frame now

-- what is known at a stage
abbrev pub TxnKnown : PrepareMade → TxnStage → Geometry → View → View → Type 0
TxnKnown made Idle g view now = ⊥
TxnKnown made Preparing g view now = IsTxnBegun made g view now
TxnKnown made (Flushing home frame) g view now = IsReadied made g view now home frame
TxnKnown made (Copying home frame) g view now = IsMovingWith made g view now home frame (IsUncopiedOp g made.page made.vpage home) Raw 1 1
TxnKnown made (Unmapping home frame) g view now = IsMovingWith made g view now home frame (IsClearedOp g made.page made.vpage home) (Copied made.page g.words) 1 1
TxnKnown made (FlushingAgain home frame word) g view now = IsMovingWith made g view now home frame (IsTakenOp g made.page made.vpage word home) (Copied made.page g.words) 1 2 × IsRightful g made.vpage word
TxnKnown made (Deciding home frame word) g view now = IsMovingWith made g view now home frame (IsSwapped g made.page made.vpage word home) (Copied made.page g.words) 2 2 × IsRightful g made.vpage word
