-- What is done after each piece of the plan, whatever that ends with.
use Rattle.std.proofs.Common.{◌≡◌, ℕ, ◌+◌, ◌<◌, List, [], ◌∷◌, ◌++◌, length, Option, sym, subst}
use Rattle.nm_base.specs.Geometry.{Geometry}
use Rattle.nm_action.specs.Own.{Own}
use Rattle.nm_view.specs.Views.{View}
use Rattle.nm_compose.specs.declared.or.Or.TheVariants.{This}
use Rattle.nm_prepare.specs.declared.prepare.Prepared.{Prepared}
use Rattle.nm_commit.specs.declared.decide.DecideMade.{DecideMade}
use Rattle.nm_txn.specs.declared.batch.ReadyPiece.{ReadyPiece}
use Rattle.nm_txn.specs.declared.end.TxnEnd.{TxnEnd}
use Rattle.nm_txn.specs.Pieces.{TxnParts, TxnEnds, TxnPieceLeaves}
use Rattle.nm_txn.specs.Stages.{txn_word_in}
use Rattle.nm_txn.specs.Batches.{BatchMade}
use Rattle.nm_txn.proofs.Runs.{by-flush, by-copy, by-unmap, by-decide}
use Rattle.nm_batch.specs.declared.batch.BatchPlace.{BatchPlace}
use Rattle.nm_batch.specs.declared.batch.BatchStage.{BatchStage}
use Rattle.nm_batch.specs.declared.batch.BatchStage.TheVariants.{Preparing, Flushing, Copying, Unmapping, FlushingAgain, Deciding}
use Rattle.nm_batch.specs.declared.batch.Batch.{Batch}
use Rattle.nm_batch.specs.Leaving.{most_pieces}
use Rattle.nm_batch.specs.Places.{batch_made, batch_piece, batch_left_by, CanNotePiece, decided_in, copy_stage, unmap_stage, decide_stage}
use Rattle.nm_batch.specs.Opened.{idle, BatchKnownBy}
use Rattle.nm_batch.proofs.Steps.{AtBatch, BatchGoes, at-batch}
use Rattle.nm_batch.proofs.Preparing.{can-note}
use Rattle.nm_batch.proofs.Copying.{after-flushing-first, after-copying-piece, copy_made}
use Rattle.nm_batch.proofs.Unmapping.{after-unmapping-piece, room-word}
use Rattle.nm_batch.proofs.Deciding.{after-flushing-again, after-deciding-piece, room-decided}

-- the same step, of another value
pub goes-as : (made : BatchMade) (place mid : BatchPlace) (so stage : Option BatchStage) (was : Own → List TxnEnd → Type 0) (g : Geometry) (first now : View) → mid ≡ place → stage ≡ so → BatchGoes made place so was g first now → BatchGoes made mid stage was g first now
goes-as made place mid so stage was g first now same is h =
    let P : BatchPlace → Type 0 = λ p. BatchGoes made p stage was g first now in
    let S : Option BatchStage → Type 0 = λ s. BatchGoes made place s was g first now in
    subst P (sym same) (subst S (sym is) h)

pub goes-flushed : (made : BatchMade) (place : BatchPlace) (end : TxnEnds) (g : Geometry) (first now later : View) → BatchKnownBy made Flushing (idle place) g first now → TxnPieceLeaves (batch_piece g place.drawn Flushing) g now end later
    → BatchGoes made place (copy_stage place 0) (batch_left_by made Flushing place g end) g first later
goes-flushed made place end g first now later k a =
    by-flush g.cpus g now later (λ e. BatchGoes made place (copy_stage place 0) (batch_left_by made Flushing place g e) g first later) end a
    (λ number f. after-flushing-first made place number g first now later k f)

pub goes-copied : (made : BatchMade) (place : BatchPlace) (index : ℕ) (p : ReadyPiece) (end : TxnEnds) (g : Geometry) (first now later : View) → BatchKnownBy made (Copying index p) (idle place) g first now → TxnPieceLeaves (batch_piece g place.drawn (Copying index p)) g now end later
    → BatchGoes made place (copy_stage place (index + 1)) (batch_left_by made (Copying index p) place g end) g first later
goes-copied made place index p end g first now later k a =
    by-copy (copy_made g p) g now later (λ e. BatchGoes made place (copy_stage place (index + 1)) (batch_left_by made (Copying index p) place g e) g first later) end a
    (λ copied c. after-copying-piece made place index p g first now later k c)

pub goes-unmapped : (made : BatchMade) (place : BatchPlace) (p : ReadyPiece) (end : TxnEnds) (g : Geometry) (first now later : View) → BatchKnownBy made (Unmapping p) (idle place) g first now → TxnPieceLeaves (batch_piece g place.drawn (Unmapping p)) g now end later
    → BatchGoes made (record place { words = place.words ++ txn_word_in end ∷ [] }) (unmap_stage (record place { words = place.words ++ txn_word_in end ∷ [] })) (batch_left_by made (Unmapping p) place g end) g first later
goes-unmapped made place p end g first now later k a =
    by-unmap (record { page = p.page; vpage = p.vpage }) g now later
    (λ e. BatchGoes made (record place { words = place.words ++ txn_word_in e ∷ [] }) (unmap_stage (record place { words = place.words ++ txn_word_in e ∷ [] })) (batch_left_by made (Unmapping p) place g e) g first later) end a
    (λ word u. after-unmapping-piece made place p word g first now later k u)

pub goes-flushed-again : (made : BatchMade) (place : BatchPlace) (end : TxnEnds) (g : Geometry) (first now later : View) → BatchKnownBy made FlushingAgain (idle place) g first now → TxnPieceLeaves (batch_piece g place.drawn FlushingAgain) g now end later
    → BatchGoes made place (decide_stage place) (batch_left_by made FlushingAgain place g end) g first later
goes-flushed-again made place end g first now later k a =
    by-flush g.cpus g now later (λ e. BatchGoes made place (decide_stage place) (batch_left_by made FlushingAgain place g e) g first later) end a
    (λ number f. after-flushing-again made place number g first now later k f)

pub goes-decided : (made : BatchMade) (place : BatchPlace) (d : DecideMade) (end : TxnEnds) (g : Geometry) (first now later : View) → BatchKnownBy made (Deciding d) (idle place) g first now → TxnPieceLeaves (batch_piece g place.drawn (Deciding d)) g now end later
    → BatchGoes made (record place { decided = place.decided ++ decided_in end ∷ [] }) (decide_stage (record place { decided = place.decided ++ decided_in end ∷ [] })) (batch_left_by made (Deciding d) place g end) g first later
goes-decided made place d end g first now later k a =
    by-decide (record { 0 = g; 1 = d }) g now later
    (λ e. BatchGoes made (record place { decided = place.decided ++ decided_in e ∷ [] }) (decide_stage (record place { decided = place.decided ++ decided_in e ∷ [] })) (batch_left_by made (Deciding d) place g e) g first later) end a
    (λ decided h. after-deciding-piece made place d decided g first now later k h)

-- What the notes need.

pub can-note-here : (s : Batch) (prepared : Prepared) (page v : ℕ) (end : TxnEnds) (g : Geometry) (first now later : View) (runs : TxnParts) → s.place.stage ≡ Preparing page v → end ≡ This prepared → AtBatch s g first now runs → TxnPieceLeaves runs g now end later → CanNotePiece s.place prepared
can-note-here s prepared page v end g first now later runs at ended placed left =
    at-batch (batch_made s.asked) s.place s.geometry.now (λ stage e. CanNotePiece s.place prepared) (Preparing page v) end (This prepared) g first now later runs at ended placed left
    (λ k a. can-note (batch_made s.asked) s.place prepared page v g first now later k a)

pub room-word-here : (s : Batch) (p : ReadyPiece) (g : Geometry) (first now : View) (runs : TxnParts) → s.place.stage ≡ Unmapping p → AtBatch s g first now runs → length s.place.words < most_pieces
room-word-here s p g first now runs at placed =
    let K : BatchStage → Type 0 = λ t. BatchKnownBy (batch_made s.asked) t (idle s.place) g first now in
    room-word (batch_made s.asked) s.place p g first now (subst K at placed.holds)

pub room-decided-here : (s : Batch) (d : DecideMade) (g : Geometry) (first now : View) (runs : TxnParts) → s.place.stage ≡ Deciding d → AtBatch s g first now runs → length s.place.decided < most_pieces
room-decided-here s d g first now runs at placed =
    let K : BatchStage → Type 0 = λ t. BatchKnownBy (batch_made s.asked) t (idle s.place) g first now in
    room-decided (batch_made s.asked) s.place d g first now (subst K at placed.holds)
