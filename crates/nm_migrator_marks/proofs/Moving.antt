-- What is done with the pages that were taken: one that was moved is taken back, and each other one is put in the pending pages again.
use Rattle.std.proofs.Common.{◌≡◌, ℕ, ◌⊎◌, List, [], ◌∷◌, ◌++◌, inl, inr, sym, subst}
use Rattle.nm_base.specs.Geometry.{Geometry}
use Rattle.nm_action.specs.declared.spent.Spent.{Spent}
use Rattle.nm_action.specs.declared.turn.Lane.{Lane}
use Rattle.nm_action.specs.declared.turn.Lane.TheVariants.{Candidates}
use Rattle.nm_action.specs.Own.{Own}
use Rattle.nm_part.specs.Patterns.{Either, Each}
use Rattle.nm_txn.specs.declared.end.TxnEnd.{TxnEnd}
use Rattle.nm_txn.specs.declared.end.TxnEnd.TheVariants as txn
use Rattle.nm_locked.specs.declared.locked.LockedEnd.{LockedEnd}
use Rattle.nm_locked.specs.declared.locked.LockedEnd.TheVariants as locked
use Rattle.nm_locked.specs.Moves.{IsLockedInMove}
use Rattle.nm_batch.specs.Places.{batch_made}
use Rattle.nm_migrator_work.specs.declared.work.MigratorWork.TheVariants.{Mark, Looks, Cool, Batch, Move, Ask}
use Rattle.nm_migrator_work.specs.Works.{MigratorWorkEnd, IsMigratorWork, made_batch, made_move}
use Rattle.nm_migrator_work.specs.Ends.{batch_in, move_in, drawn_in, migrator_counts}
use Rattle.nm_migrator_work.specs.Planned.{MigratorKept, again_of, where_again, is_again, batched, is_busy_move, kept_drawn}
use Rattle.nm_migrator.specs.Migrating.{Sequence, Puts, MoveNext, MovesLocked, PutNext, AfterBatch, Batches}
use Rattle.nm_marks.specs.Contents.{HasEvent}
use Rattle.nm_marks.specs.Marks.{IsTakenBack}
use Rattle.nm_part_marks.specs.Ends.{ArePiecesBack}
use Rattle.nm_part_marks.proofs.Back.{locked-back}
use Rattle.nm_part_marks.proofs.BatchBack.{batch-back}
use Rattle.nm_migrator_marks.proofs.Among.{IsAmong, among-left, among-right, among-either, pages_of}
use Rattle.nm_migrator_marks.proofs.Clearing.{ClearsAfter, GoesOn, does-clears}
use Rattle.nm_migrator_marks.proofs.Lanes.{puts-clears}
use Rattle.nm_migrator_marks.proofs.Works.{batch-returns, move-returns}
use Rattle.nm_migrator_marks.proofs.Heating.{NextClears}

-- ---- locked moves

-- the page was moved, and is held no more
move-over : (g : Geometry) (before : Own) (held pages : List ℕ) (own : Own) (page : ℕ) (after : Sequence) → ClearsAfter g held after → HasEvent (IsTakenBack page) own → GoesOn g before (page ∷ held) pages own after
move-over g before held pages own page after rest back =
    let B : ℕ → Type 0 = λ b. HasEvent (IsTakenBack b) own in
    record {
      later = held;
      kept = λ b here. elim here [
        | inl same ↦ inr (subst B (sym same) back)
        | inr other ↦ inl other
      ];
      clear = rest (before ++ own) pages;
    }

move-end : (g : Geometry) (before : Own) (held pages : List ℕ) (own : Own) (page count : ℕ) (spent : Spent) (end : LockedEnd) (after : Sequence) → ClearsAfter g held after
    → IsLockedInMove (record { page = page; count = count; spent = spent }) g own end → GoesOn g before (page ∷ held) pages own (Either (is_busy_move end) (Puts page after) after)
move-end g before held pages own page count spent locked.Busy after rest h = record { later = page ∷ held; kept = λ b here. inl here; clear = puts-clears g held page after rest (before ++ own) pages }
move-end g before held pages own page count spent locked.Moved after rest h = move-over g before held pages own page after rest (locked-back (record { page = page; count = count; spent = spent }) g own locked.Moved h tt)
move-end g before held pages own page count spent (locked.NoFrame n) after rest h = move-over g before held pages own page after rest (locked-back (record { page = page; count = count; spent = spent }) g own (locked.NoFrame n) h tt)
move-end g before held pages own page count spent locked.Gone after rest h = move-over g before held pages own page after rest (locked-back (record { page = page; count = count; spent = spent }) g own locked.Gone h tt)
move-end g before held pages own page count spent locked.Worn after rest h = move-over g before held pages own page after rest (locked-back (record { page = page; count = count; spent = spent }) g own locked.Worn h tt)

move-done : (g : Geometry) (before : Own) (held pages : List ℕ) (own : Own) (page count : ℕ) (spent : Spent) (end : MigratorWorkEnd) (after : Sequence) → ClearsAfter g held after
    → IsMigratorWork (made_move g page count spent) g own end → GoesOn g before (page ∷ held) pages own (Either (is_busy_move (move_in end)) (Puts page after) after)
move-done g before held pages own page count spent (Mark reply) after rest h = absurd h
move-done g before held pages own page count spent (Looks seen) after rest h = absurd h
move-done g before held pages own page count spent (Cool end) after rest h = absurd h
move-done g before held pages own page count spent (Batch told) after rest h = absurd h
move-done g before held pages own page count spent (Move told) after rest h = move-end g before held pages own page count spent told.end.end after rest h.shown
move-done g before held pages own page count spent (Ask all) after rest h = absurd h

moves-clears : (g : Geometry) (next : Lane → MigratorKept → Sequence) → NextClears g next → (moves : List (ℕ × ℕ)) (kept : MigratorKept) → ClearsAfter g (pages_of moves) (MovesLocked g next moves kept)
moves-clears g next n [] kept before pages = n Candidates kept before pages
moves-clears g next n (m ∷ ms) kept before pages =
    let after : MigratorKept → Sequence = λ kept. Each (MoveNext g) ms kept (next Candidates) in
    does-clears g before (m.0 ∷ pages_of ms) pages IsMigratorWork migrator_counts (made_move g m.0 m.1 kept.spent) (λ end. Either (is_busy_move (move_in end)) (Puts m.0 (after (kept_drawn (drawn_in end) kept))) (after (kept_drawn (drawn_in end) kept)))
    (move-returns g m.0 m.1 kept.spent)
    (λ own end shown. move-done g before (pages_of ms) pages own m.0 m.1 kept.spent end (after (kept_drawn (drawn_in end) kept)) (moves-clears g next n ms (kept_drawn (drawn_in end) kept)) shown)

-- ---- batches

again-clears : (g : Geometry) (next : Lane → MigratorKept → Sequence) → NextClears g next → (moves : List (ℕ × ℕ)) (again : List ℕ) (kept : MigratorKept) → ClearsAfter g (again ++ pages_of moves) (AfterBatch g next moves again kept)
again-clears g next n moves [] kept = moves-clears g next n moves kept
again-clears g next n moves (page ∷ again) kept = puts-clears g (again ++ pages_of moves) page (Each PutNext again kept (MovesLocked g next moves)) (again-clears g next n moves again kept)

-- a page of a piece is tried again, or was taken back
piece-owed : (piece : ℕ × ℕ) (end : TxnEnd) (again : List ℕ) (own : Own) (b : ℕ) → ArePiecesBack (piece ∷ []) (end ∷ []) own → (b ≡ piece.0) ⊎ IsAmong b again → IsAmong b (where_again (is_again end) piece.0 again) ⊎ ((b ≡ piece.0) × HasEvent (IsTakenBack piece.0) own)
piece-owed piece txn.Committed again own b back (inl same) = inr (same, back.0 tt)
piece-owed piece txn.Committed again own b back (inr there) = inl there
piece-owed piece (txn.Aborted word) again own b back (inl same) = inl (inl same)
piece-owed piece (txn.Aborted word) again own b back (inr there) = inl (inr there)
piece-owed piece (txn.NoFrame n) again own b back (inl same) = inr (same, back.0 tt)
piece-owed piece (txn.NoFrame n) again own b back (inr there) = inl there
piece-owed piece txn.Gone again own b back (inl same) = inr (same, back.0 tt)
piece-owed piece txn.Gone again own b back (inr there) = inl there
piece-owed piece txn.Worn again own b back (inl same) = inr (same, back.0 tt)
piece-owed piece txn.Worn again own b back (inr there) = inl there
piece-owed piece txn.Busy again own b back (inl same) = inl (inl same)
piece-owed piece txn.Busy again own b back (inr there) = inl (inr there)

here-owed : (piece : ℕ × ℕ) (end : TxnEnd) (again : List ℕ) (own : Own) (b : ℕ) → ArePiecesBack (piece ∷ []) (end ∷ []) own → (b ≡ piece.0) ⊎ IsAmong b again → IsAmong b (where_again (is_again end) piece.0 again) ⊎ HasEvent (IsTakenBack b) own
here-owed piece end again own b back owed =
    let B : ℕ → Type 0 = λ n. HasEvent (IsTakenBack n) own in
    elim (piece-owed piece end again own b back owed) [
      | inl again ↦ inl again
      | inr gone ↦ inr (subst B (sym gone.0) gone.1)
    ]

pieces-owed : (pieces : List (ℕ × ℕ)) (ends : List TxnEnd) (own : Own) → ArePiecesBack pieces ends own → (b : ℕ) → IsAmong b (pages_of pieces) → IsAmong b (again_of pieces ends) ⊎ HasEvent (IsTakenBack b) own
pieces-owed [] ends own back b h = absurd h
pieces-owed (piece ∷ pieces) [] own back b h = absurd back
pieces-owed (piece ∷ pieces) (end ∷ ends) own back b (inl same) = here-owed piece end (again_of pieces ends) own b (back.0, tt) (inl same)
pieces-owed (piece ∷ pieces) (end ∷ ends) own back b (inr there) = elim (pieces-owed pieces ends own back.1 b there) [
  | inl again ↦ here-owed piece end (again_of pieces ends) own b (back.0, tt) (inr again)
  | inr gone ↦ inr gone
]

batch-done : (g : Geometry) (next : Lane → MigratorKept → Sequence) → NextClears g next → (moves pieces : List (ℕ × ℕ)) (kept : MigratorKept) (before : Own) (pages : List ℕ) (own : Own) (end : MigratorWorkEnd) → IsMigratorWork (made_batch g pieces kept.spent) g own end
    → GoesOn g before (pages_of pieces ++ pages_of moves) pages own (AfterBatch g next moves (again_of pieces (batch_in end).end) (batched pieces (batch_in end) kept))
batch-done g next n moves pieces kept before pages own (Mark reply) h = absurd h
batch-done g next n moves pieces kept before pages own (Looks seen) h = absurd h
batch-done g next n moves pieces kept before pages own (Cool end) h = absurd h
batch-done g next n moves pieces kept before pages own (Batch told) h =
    let back = batch-back (batch_made (record { pieces = pieces; spent = kept.spent })) g own told.end h.shown in
    record {
      later = again_of pieces told.end ++ pages_of moves;
      kept = λ b here. elim (among-either b (pages_of pieces) (pages_of moves) here) [
        | inl piece ↦ elim (pieces-owed pieces told.end own back b piece) [
          | inl again ↦ inl (among-left b (again_of pieces told.end) (pages_of moves) again)
          | inr gone ↦ inr gone
        ]
        | inr move ↦ inl (among-right b (again_of pieces told.end) (pages_of moves) move)
      ];
      clear = again-clears g next n moves (again_of pieces told.end) (batched pieces told kept) (before ++ own) pages;
    }
batch-done g next n moves pieces kept before pages own (Move told) h = absurd h
batch-done g next n moves pieces kept before pages own (Ask all) h = absurd h

pub batches-clears : (g : Geometry) (next : Lane → MigratorKept → Sequence) → NextClears g next → (kept : MigratorKept) (moves pieces : List (ℕ × ℕ)) → ClearsAfter g (pages_of pieces ++ pages_of moves) (Batches g next kept moves pieces)
batches-clears g next n kept moves [] before pages = moves-clears g next n moves kept before pages
batches-clears g next n kept moves (p ∷ ps) before pages =
    does-clears g before (pages_of (p ∷ ps) ++ pages_of moves) pages IsMigratorWork migrator_counts (made_batch g (p ∷ ps) kept.spent) (λ end. AfterBatch g next moves (again_of (p ∷ ps) (batch_in end).end) (batched (p ∷ ps) (batch_in end) kept))
    (batch-returns g (p ∷ ps) kept.spent) (λ own end shown. batch-done g next n moves (p ∷ ps) kept before pages own end shown)
