-- A batch of transactions that share their flushes, as a pattern over finished lists, the last step first.
use Rattle.std.specs.Prelude.{◌≡◌, ◌↔◌, ℕ, suc, ◌+◌, List, [], ◌∷◌, ◌++◌}
use Rattle.nm_base.specs.Geometry.{Geometry}
use Rattle.nm_action.specs.declared.spent.Spent.{Spent}
use Rattle.nm_action.specs.Own.{Own}
use Rattle.nm_part.specs.Patterns.{Ends, Follows, Each}
use Rattle.nm_shoot.specs.Shootdown.{IsShootdown}
use Rattle.nm_copying.specs.Copying.{IsCopying}
use Rattle.nm_prepare.specs.declared.prepare.PrepareMade.{PrepareMade}
use Rattle.nm_prepare.specs.declared.prepare.Prepared.{Prepared}
use Rattle.nm_prepare.specs.declared.prepare.Prepared.TheVariants as prepared
use Rattle.nm_prepare.specs.Preparing.{IsPrepare}
use Rattle.nm_commit.specs.declared.decide.DecideMade.{DecideMade}
use Rattle.nm_commit.specs.declared.decide.Decided.{Decided}
use Rattle.nm_commit.specs.Unmapping.{UnmapsOne}
use Rattle.nm_commit.specs.Deciding.{IsDeciding}
use Rattle.nm_txn.specs.declared.batch.ReadyPiece.{ReadyPiece}
use Rattle.nm_txn.specs.declared.end.TxnEnd.{TxnEnd}
use Rattle.nm_txn.specs.declared.end.TxnEnd.TheVariants.{Busy}
use Rattle.nm_txn.specs.Transactions.{early_end, decided_end, IsTxn}

-- the pieces of a batch: pages, each with the virtual page that alone is to have a table word; and what the actor has drawn
pub record BatchMade : Type 0 where
  pub pieces : List (ℕ × ℕ)
  pub spent : Spent

-- how many of these pieces are ready
abbrev pub count_ready : List Prepared → ℕ
count_ready [] = 0
count_ready (prepared.Busy ∷ ends) = count_ready ends
count_ready (prepared.Closed early ∷ ends) = count_ready ends
count_ready (prepared.Ready home frame ∷ ends) = suc (count_ready ends)

-- what is drawn after a piece was prepared: one raise where it is ready
abbrev pub drawn_after : Spent → Prepared → Spent
drawn_after spent prepared.Busy = spent
drawn_after spent (prepared.Closed early) = spent
drawn_after spent (prepared.Ready home frame) = record spent { raises = spent.raises + 1 }

abbrev pub drawn_with : Spent → List Prepared → Spent
drawn_with spent [] = spent
drawn_with spent (end ∷ ends) = drawn_with (drawn_after spent end) ends

-- the pieces that are ready, in order, by how each was prepared
abbrev pub ready_with : ℕ × ℕ → Prepared → List ReadyPiece → List ReadyPiece
ready_with piece prepared.Busy rest = rest
ready_with piece (prepared.Closed early) rest = rest
ready_with piece (prepared.Ready home frame) rest = record { page = piece.0; vpage = piece.1; home = home; frame = frame } ∷ rest

abbrev pub ready_of : List (ℕ × ℕ) → List Prepared → List ReadyPiece
ready_of [] ends = []
ready_of (piece ∷ pieces) [] = []
ready_of (piece ∷ pieces) (end ∷ ends) = ready_with piece end (ready_of pieces ends)

-- the ready pieces, each with its taken word, as they are decided
abbrev pub taken_of : List ReadyPiece → List ℕ → List DecideMade
taken_of [] words = []
taken_of (p ∷ ps) [] = []
taken_of (p ∷ ps) (word ∷ words) = record { page = p.page; vpage = p.vpage; word = word; home = p.home; frame = p.frame } ∷ taken_of ps words

-- the ends of all pieces, in order: those that ended early as they ended, and the ready ones as they were decided
abbrev pub ends_of : List Prepared → List Decided → List TxnEnd
ends_of [] decided = []
ends_of (prepared.Busy ∷ ends) decided = Busy ∷ ends_of ends decided
ends_of (prepared.Closed early ∷ ends) decided = early_end early ∷ ends_of ends decided
ends_of (prepared.Ready home frame ∷ ends) [] = []
ends_of (prepared.Ready home frame ∷ ends) (end ∷ decided) = decided_end end ∷ ends_of ends decided

-- 7. For each ready piece: it commits or aborts.
abbrev pub DecidesNext : Geometry → DecideMade → List Decided → (List Decided → Own → List TxnEnd → Type 0) → Own → List TxnEnd → Type 0
DecidesNext g made kept after = Follows (IsDeciding made g) (λ end. after (kept ++ end ∷ []))

abbrev pub DecidesEach : Geometry → List Prepared → List DecideMade → Own → List TxnEnd → Type 0
DecidesEach g ends taken = Each (DecidesNext g) taken [] (λ decided. Ends (ends_of ends decided))

-- 6. The second flush.
abbrev pub FlushesAgain : Geometry → List Prepared → List DecideMade → Own → List TxnEnd → Type 0
FlushesAgain g ends taken = Follows (IsShootdown g.cpus) (λ number. DecidesEach g ends taken)

-- 5. For each ready piece: its virtual page is unmapped, and raised.
abbrev pub UnmapsNext : Geometry → ReadyPiece → List ℕ → (List ℕ → Own → List TxnEnd → Type 0) → Own → List TxnEnd → Type 0
UnmapsNext g piece kept after = Follows (UnmapsOne (record { page = piece.page; vpage = piece.vpage }) g) (λ word. after (kept ++ word ∷ []))

abbrev pub UnmapsEach : Geometry → List Prepared → List ReadyPiece → Own → List TxnEnd → Type 0
UnmapsEach g ends ready = Each (UnmapsNext g) ready [] (λ words. FlushesAgain g ends (taken_of ready words))

-- 4. For each ready piece: its page is copied.
abbrev pub CopiesNext : Geometry → ReadyPiece → Unit {0} → (Unit {0} → Own → List TxnEnd → Type 0) → Own → List TxnEnd → Type 0
CopiesNext g piece kept after = Follows (IsCopying (record { page = piece.page; frame = piece.frame; words = g.words }) g) (λ copied. after kept)

abbrev pub CopiesEach : Geometry → List Prepared → List ReadyPiece → Own → List TxnEnd → Type 0
CopiesEach g ends ready = Each (CopiesNext g) ready tt (λ kept. UnmapsEach g ends ready)

-- 2. Where no piece is ready the batch is over. 3. Else the first flush.
abbrev pub AfterPrepares : Geometry → List Prepared → List ReadyPiece → Own → List TxnEnd → Type 0
AfterPrepares g ends [] = Ends (ends_of ends [])
AfterPrepares g ends (piece ∷ pieces) = Follows (IsShootdown g.cpus) (λ number. CopiesEach g ends (piece ∷ pieces))

-- 1. Each piece in order is prepared, by what was drawn so far.
abbrev pub PreparesNext : Geometry → BatchMade → ℕ × ℕ → List Prepared → (List Prepared → Own → List TxnEnd → Type 0) → Own → List TxnEnd → Type 0
PreparesNext g made piece kept after = Follows (IsPrepare (record { page = piece.0; vpage = piece.1; spent = drawn_with made.spent kept }) g) (λ end. after (kept ++ end ∷ []))

-- the batch, and the end of each of its pieces
abbrev pub IsBatch : BatchMade → Geometry → Own → List TxnEnd → Type 0
IsBatch made g = Each (PreparesNext g made) made.pieces [] (λ ends. AfterPrepares g ends (ready_of made.pieces ends))

-- a batch of this one piece
abbrev pub one_piece : PrepareMade → BatchMade
one_piece made = record { pieces = (made.page, made.vpage) ∷ []; spent = made.spent }

-- the lists of a batch of one piece are those of a transaction, with the same end
abbrev pub IsOneTransaction : Type 0
IsOneTransaction = (made : PrepareMade) (g : Geometry) (own : Own) (end : TxnEnd) → IsBatch (one_piece made) g own (end ∷ []) ↔ IsTxn made g own end
