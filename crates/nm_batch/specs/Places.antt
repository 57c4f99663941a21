-- How far a batch has come.
use Rattle.std.specs.Prelude.{◌≡◌, ℕ, ◌+◌, ◌^◌, ◌<◌, List, [], ◌∷◌, ◌++◌, length, drop, Option, Some, None}
use Rattle.nm_base.specs.Geometry.{Geometry}
use Rattle.nm_action.specs.declared.spent.Spent.{Spent}
use Rattle.nm_action.specs.Own.{Own}
use Rattle.nm_part.specs.Patterns.{Ends, Each}
use Rattle.nm_compose.specs.declared.or.Or.TheVariants.{This, Other}
use Rattle.nm_compose.specs.declared.plan.Next.{Next}
use Rattle.nm_compose.specs.declared.plan.Next.TheVariants.{Run, Over}
use Rattle.nm_prepare.specs.declared.prepare.Prepared.{Prepared}
use Rattle.nm_prepare.specs.declared.prepare.Prepared.TheVariants as prepared
use Rattle.nm_commit.specs.declared.decide.DecideMade.{DecideMade}
use Rattle.nm_commit.specs.declared.decide.Decided.{Decided}
use Rattle.nm_commit.specs.declared.decide.Decided.TheVariants as decided
use Rattle.nm_txn.specs.declared.batch.ReadyPiece.{ReadyPiece}
use Rattle.nm_txn.specs.declared.end.TxnEnd.{TxnEnd}
use Rattle.nm_txn.specs.Pieces.{TxnPiece, TxnParts, TxnEnds, txn_parts, IsNewTxnPiece}
use Rattle.nm_txn.specs.Stages.{NothingInTxn, by_prepared, by_flushed, by_copied, by_taken, by_decided}
use Rattle.nm_txn.specs.Batches.{BatchMade, ready_of, taken_of, ends_of, DecidesNext, DecidesEach, FlushesAgain, UnmapsNext, UnmapsEach, CopiesNext, CopiesEach, AfterPrepares, PreparesNext}
use Rattle.nm_batch.specs.declared.batch.BatchAsked.{BatchAsked}
use Rattle.nm_batch.specs.declared.batch.BatchPlace.{BatchPlace}
use Rattle.nm_batch.specs.declared.batch.BatchStage.{BatchStage}
use Rattle.nm_batch.specs.declared.batch.BatchStage.TheVariants.{Idle, Preparing, Flushing, Copying, Unmapping, FlushingAgain, Deciding}
use Rattle.nm_batch.specs.declared.batch.Batch.{Batch}
use Rattle.nm_batch.specs.Leaving.{most_pieces}

-- what a batch is begun with, as its pattern has it
abbrev pub batch_made : BatchAsked → BatchMade
batch_made asked = record { pieces = asked.pieces; spent = asked.spent }

-- where it begins
abbrev pub new_batch_place : Spent → BatchPlace
new_batch_place spent = record { stage = Idle; drawn = spent; prepared = []; ready = []; words = []; decided = [] }

-- it has not begun, and has a piece
pub record IsNewBatch (s : Batch) : Type 0 where
  pub place : s.place ≡ new_batch_place s.asked.spent
  pub some : s.asked.pieces ≡ [] → ⊥

-- the piece of a stage
abbrev pub batch_piece : Geometry → Spent → BatchStage → TxnParts
batch_piece g drawn Idle = This (record { 0 = g; 1 = record { page = 0; vpage = 0; spent = drawn } })
batch_piece g drawn (Preparing page vpage) = This (record { 0 = g; 1 = record { page = page; vpage = vpage; spent = drawn } })
batch_piece g drawn Flushing = Other (This g.cpus)
batch_piece g drawn (Copying index piece) = Other (Other (This (record { page = piece.page; frame = piece.frame; words = g.words })))
batch_piece g drawn (Unmapping piece) = Other (Other (Other (This (record { page = piece.page; vpage = piece.vpage }))))
batch_piece g drawn FlushingAgain = Other (This g.cpus)
batch_piece g drawn (Deciding made) = Other (Other (Other (Other (record { 0 = g; 1 = made }))))

abbrev pub batch_piece_at : Geometry → BatchMade → BatchPlace → TxnParts
batch_piece_at g made place = batch_piece g place.drawn place.stage

-- how the next piece was prepared is noted
abbrev pub piece_noted : ℕ → ℕ → Prepared → BatchPlace → BatchPlace
piece_noted page v prepared.Busy place = record place { prepared = place.prepared ++ prepared.Busy ∷ [] }
piece_noted page v (prepared.Closed early) place = record place { prepared = place.prepared ++ prepared.Closed early ∷ [] }
piece_noted page v (prepared.Ready home frame) place = record place {
  prepared = place.prepared ++ prepared.Ready home frame ∷ [];
  ready = place.ready ++ record { page = page; vpage = v; home = home; frame = frame } ∷ [];
  drawn = record place.drawn { raises = place.drawn.raises + 1 };
}

-- there is room for the note
pub record HasRoomForReady (place : BatchPlace) : Type 0 where
  pub room : length place.ready < most_pieces
  pub few : place.drawn.raises + 1 < 2 ^ 64

abbrev pub CanNoteEnd : BatchPlace → Prepared → Type 0
CanNoteEnd place prepared.Busy = Unit {0}
CanNoteEnd place (prepared.Closed early) = Unit {0}
CanNoteEnd place (prepared.Ready home frame) = HasRoomForReady place

pub record CanNotePiece (place : BatchPlace) (end : Prepared) : Type 0 where
  pub room : length place.prepared < most_pieces
  pub ready : CanNoteEnd place end

-- how a piece was decided (Committed where the piece of the plan was no decision, of which nothing is claimed)
abbrev pub decided_in : TxnEnds → Decided
decided_in (This end) = decided.Committed
decided_in (Other (This number)) = decided.Committed
decided_in (Other (Other (This end))) = decided.Committed
decided_in (Other (Other (Other (This word)))) = decided.Committed
decided_in (Other (Other (Other (Other end)))) = end

-- The next stage; none where the batch is over.

abbrev pub prepare_stage_by : List (ℕ × ℕ) → List ReadyPiece → Option BatchStage
prepare_stage_by (p ∷ ps) ready = Some (Preparing p.0 p.1)
prepare_stage_by [] [] = None
prepare_stage_by [] (r ∷ rs) = Some Flushing

abbrev pub prepare_stage : BatchMade → BatchPlace → Option BatchStage
prepare_stage made place = prepare_stage_by (drop (length place.prepared) made.pieces) place.ready

abbrev pub unmap_stage_by : List ReadyPiece → Option BatchStage
unmap_stage_by (p ∷ ps) = Some (Unmapping p)
unmap_stage_by [] = Some FlushingAgain

abbrev pub unmap_stage : BatchPlace → Option BatchStage
unmap_stage place = unmap_stage_by (drop (length place.words) place.ready)

abbrev pub copy_stage_by : ℕ → List ReadyPiece → Option BatchStage → Option BatchStage
copy_stage_by index (p ∷ ps) later = Some (Copying index p)
copy_stage_by index [] later = later

abbrev pub copy_stage : BatchPlace → ℕ → Option BatchStage
copy_stage place index = copy_stage_by index (drop index place.ready) (unmap_stage place)

abbrev pub decide_stage_by : List DecideMade → Option BatchStage
decide_stage_by (d ∷ ds) = Some (Deciding d)
decide_stage_by [] = None

abbrev pub decide_stage : BatchPlace → Option BatchStage
decide_stage place = decide_stage_by (drop (length place.decided) (taken_of place.ready place.words))

-- the next stage is come to
pub record IsBatchRun (old : Batch) (stage : Option BatchStage) (new : Batch) (piece : TxnPiece) : Type 0 where
  pub next : BatchStage
  pub some : stage ≡ Some next
  pub is : new ≡ record old { place = record old.place { stage = next } }
  pub made : txn_parts piece ≡ batch_piece old.geometry.now old.place.drawn next
  pub fresh : IsNewTxnPiece piece

-- the batch is over
pub record IsBatchOver (old : Batch) (stage : Option BatchStage) (new : Batch) (ends : List TxnEnd) : Type 0 where
  pub none : stage ≡ None
  pub is : new ≡ old
  pub outcome : ends ≡ ends_of old.place.prepared old.place.decided

abbrev pub IsBatchStep : Batch → Option BatchStage → Batch → Next TxnPiece (List TxnEnd) → Type 0
IsBatchStep old stage new (Run piece) = IsBatchRun old stage new piece
IsBatchStep old stage new (Over ends) = IsBatchOver old stage new ends

-- What is left of the pattern.

-- from these pieces on, where those before were prepared so
abbrev pub PreparesFrom : Geometry → BatchMade → List (ℕ × ℕ) → List Prepared → Own → List TxnEnd → Type 0
PreparesFrom g made pieces kept = Each (PreparesNext g made) pieces kept (λ ends. AfterPrepares g ends (ready_of made.pieces ends))

abbrev pub CopiesFromPiece : Geometry → List Prepared → List ReadyPiece → List ReadyPiece → Own → List TxnEnd → Type 0
CopiesFromPiece g ends ready rest = Each (CopiesNext g) rest tt (λ kept. UnmapsEach g ends ready)

abbrev pub UnmapsFrom : Geometry → List Prepared → List ReadyPiece → List ReadyPiece → List ℕ → Own → List TxnEnd → Type 0
UnmapsFrom g ends ready rest words = Each (UnmapsNext g) rest words (λ words. FlushesAgain g ends (taken_of ready words))

abbrev pub DecidesFrom : Geometry → List Prepared → List DecideMade → List Decided → Own → List TxnEnd → Type 0
DecidesFrom g ends rest kept = Each (DecidesNext g) rest kept (λ decided. Ends (ends_of ends decided))

abbrev pub batch_left_by : BatchMade → BatchStage → BatchPlace → Geometry → TxnEnds → Own → List TxnEnd → Type 0
batch_left_by made Idle place g = by_prepared (λ end. NothingInTxn)
batch_left_by made (Preparing page v) place g = by_prepared (λ end. PreparesFrom g made (drop (length place.prepared + 1) made.pieces) (place.prepared ++ end ∷ []))
batch_left_by made Flushing place g = by_flushed (CopiesEach g place.prepared place.ready)
batch_left_by made (Copying index piece) place g = by_copied (CopiesFromPiece g place.prepared place.ready (drop (index + 1) place.ready))
batch_left_by made (Unmapping piece) place g = by_taken (λ word. UnmapsFrom g place.prepared place.ready (drop (length place.words + 1) place.ready) (place.words ++ word ∷ []))
batch_left_by made FlushingAgain place g = by_flushed (DecidesEach g place.prepared (taken_of place.ready place.words))
batch_left_by made (Deciding d) place g = by_decided (λ end. DecidesFrom g place.prepared (drop (length place.decided + 1) (taken_of place.ready place.words)) (place.decided ++ end ∷ []))

abbrev pub batch_left : BatchMade → BatchPlace → Geometry → TxnEnds → Own → List TxnEnd → Type 0
batch_left made place = batch_left_by made place.stage place
