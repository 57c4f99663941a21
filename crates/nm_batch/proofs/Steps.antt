-- The steps of a batch: it comes to its next stage, or is over.
use Rattle.std.proofs.Common.{◌≡◌, ℕ, List, Option, Some, None, refl, sym, ap, ◌∙◌, subst}
use Rattle.nm_base.specs.Geometry.{Geometry}
use Rattle.nm_action.specs.Own.{Own}
use Rattle.nm_view.specs.Views.{View}
use Rattle.nm_compose.specs.Plans.{IsPieceRun, IsOver, IsNext}
use Rattle.nm_compose.specs.declared.plan.Next.{Next}
use Rattle.nm_compose.specs.declared.plan.Next.TheVariants.{Run, Over}
use Rattle.nm_prepare.specs.Placing.{IsPlanPlaced, RunsPlaced}
use Rattle.nm_prepare.proofs.Placed.{run-placed}
use Rattle.nm_txn.specs.declared.end.TxnEnd.{TxnEnd}
use Rattle.nm_txn.specs.Pieces.{TxnPiece, TxnParts, TxnEnds, txn_parts, IsNewTxnPiece, MayTxnPiece, IsTxnPiece, TxnPieceLeaves}
use Rattle.nm_txn.specs.Batches.{BatchMade, ends_of}
use Rattle.nm_batch.specs.declared.batch.BatchPlace.{BatchPlace}
use Rattle.nm_batch.specs.declared.batch.BatchStage.{BatchStage}
use Rattle.nm_batch.specs.declared.batch.BatchStage.TheVariants.{Preparing}
use Rattle.nm_batch.specs.declared.batch.Batch.{Batch}
use Rattle.nm_batch.specs.Leaving.{IsBatchLeft}
use Rattle.nm_batch.specs.Places.{batch_made, new_batch_place, batch_piece, batch_piece_at, batch_left_by, batch_left, IsBatchStep}
use Rattle.nm_batch.specs.Opened.{idle, BatchKnownBy, BatchKnown}

-- the piece of a place runs
abbrev pub RunsBatch : BatchMade → BatchPlace → (Own → List TxnEnd → Type 0) → Geometry → View → View → Type 0
RunsBatch = RunsPlaced MayTxnPiece IsTxnPiece batch_piece_at batch_left BatchKnown

-- the batch is over
abbrev pub OverBatch : BatchMade → (Own → List TxnEnd → Type 0) → Geometry → View → View → List TxnEnd → Type 0
OverBatch made was g first now ends = IsOver was (λ g view ends left. IsBatchLeft made view ends left) (λ g ends. Unit {0}) g first now ends

-- it comes to this stage, or is over where there is none
abbrev pub BatchGoes : BatchMade → BatchPlace → Option BatchStage → (Own → List TxnEnd → Type 0) → Geometry → View → View → Type 0
BatchGoes made place None was g first now = OverBatch made was g first now (ends_of place.prepared place.decided)
BatchGoes made place (Some stage) was g first now = RunsBatch made (record place { stage = stage }) was g first now

abbrev pub AtBatch : Batch → Geometry → View → View → TxnParts → Type 0
AtBatch s = IsPlanPlaced batch_piece_at BatchKnown s.geometry.now (batch_made s.asked) s.place

abbrev pub GivesBatch : Batch → TxnParts → (Own → List TxnEnd → Type 0) → Geometry → View → View → Type 0
GivesBatch new runs was g first now = IsPieceRun MayTxnPiece IsTxnPiece (AtBatch new) (batch_left (batch_made new.asked) new.place) was runs g first now

-- what the plan does next
abbrev pub BatchNext : Batch → Batch → (Own → List TxnEnd → Type 0) → Geometry → View → View → Next TxnPiece (List TxnEnd) → Type 0
BatchNext old new was g first now result = IsNext txn_parts IsNewTxnPiece MayTxnPiece IsTxnPiece (AtBatch new) (batch_left (batch_made new.asked) new.place) was (λ g view ends left. IsBatchLeft (batch_made old.asked) view ends left) (λ g ends. Unit {0}) g first now result

-- as the plan comes to a stage
pub gives-batch : (old mid new : Batch) (stage : BatchStage) (runs : TxnParts) (was : Own → List TxnEnd → Type 0) (g : Geometry) (first now : View)
    → old.geometry.now ≡ g → mid.geometry.now ≡ old.geometry.now → mid.asked ≡ old.asked → new ≡ record mid { place = record mid.place { stage = stage } } → runs ≡ batch_piece mid.geometry.now mid.place.drawn stage
    → RunsBatch (batch_made old.asked) (record mid.place { stage = stage }) was g first now → GivesBatch new runs was g first now
gives-batch old mid new stage runs was g first now geometry same asked is acts run =
    run-placed MayTxnPiece IsTxnPiece batch_piece_at batch_left BatchKnown was old.geometry.now new.geometry.now (batch_made old.asked) (batch_made new.asked) (record mid.place { stage = stage }) new.place runs g first now
    geometry (ap (λ (s : Batch). s.geometry.now) is ∙ same) (ap (λ (s : Batch). batch_made s.asked) is ∙ ap batch_made asked) (ap (λ (s : Batch). s.place) is)
    (acts ∙ ap (λ (h : Geometry). batch_piece h mid.place.drawn stage) same) run

run-goes : (made : BatchMade) (place : BatchPlace) (stage : Option BatchStage) (next : BatchStage) (was : Own → List TxnEnd → Type 0) (g : Geometry) (first now : View) → stage ≡ Some next → BatchGoes made place stage was g first now → RunsBatch made (record place { stage = next }) was g first now
run-goes made place stage next was g first now e h = let G : Option BatchStage → Type 0 = λ o. BatchGoes made place o was g first now in subst G e h

over-goes : (made : BatchMade) (place : BatchPlace) (stage : Option BatchStage) (was : Own → List TxnEnd → Type 0) (g : Geometry) (first now : View) → stage ≡ None → BatchGoes made place stage was g first now → OverBatch made was g first now (ends_of place.prepared place.decided)
over-goes made place stage was g first now e h = let G : Option BatchStage → Type 0 = λ o. BatchGoes made place o was g first now in subst G e h

pub step-batch : (old mid new : Batch) (stage : Option BatchStage) (was : Own → List TxnEnd → Type 0) (g : Geometry) (first now : View) (result : Next TxnPiece (List TxnEnd))
    → old.geometry.now ≡ g → mid.geometry.now ≡ old.geometry.now → mid.asked ≡ old.asked → IsBatchStep mid stage new result
    → BatchGoes (batch_made old.asked) mid.place stage was g first now → BatchNext old new was g first now result
step-batch old mid new stage was g first now (Run piece) geometry same asked step goes = record {
  new = step.fresh;
  run = gives-batch old mid new step.next (txn_parts piece) was g first now geometry same asked step.is step.made (run-goes (batch_made old.asked) mid.place stage step.next was g first now step.some goes);
}
step-batch old mid new stage was g first now (Over ends) geometry same asked step goes =
    let O : List TxnEnd → Type 0 = λ l. OverBatch (batch_made old.asked) was g first now l in
    subst O (sym step.outcome) (over-goes (batch_made old.asked) mid.place stage was g first now step.none goes)

-- what is known after a piece, at its stage and for its end
pub at-batch : (made : BatchMade) (place : BatchPlace) (mine : Geometry) (goal : BatchStage → TxnEnds → Type 0) (here : BatchStage) (end so : TxnEnds) (g : Geometry) (first now later : View) (runs : TxnParts)
    → place.stage ≡ here → end ≡ so → IsPlanPlaced batch_piece_at BatchKnown mine made place g first now runs → TxnPieceLeaves runs g now end later
    → (BatchKnownBy made here (idle place) g first now → TxnPieceLeaves (batch_piece g place.drawn here) g now so later → goal here so) → goal place.stage end
at-batch made place mine goal here end so g first now later runs at ended placed left show =
    let K : BatchStage → Type 0 = λ s. BatchKnownBy made s (idle place) g first now in
    let L : TxnParts → Type 0 = λ m. TxnPieceLeaves m g now end later in
    let N : BatchStage → Type 0 = λ s. TxnPieceLeaves (batch_piece g place.drawn s) g now end later in
    let E : TxnEnds → Type 0 = λ x. TxnPieceLeaves (batch_piece g place.drawn here) g now x later in
    let H : BatchStage → Type 0 = λ s. goal s end in
    let shown = show (subst K at placed.holds) (subst E ended (subst N at (subst L placed.is left))) in
    subst H (sym at) (subst (goal here) (sym ended) shown)

-- after a piece: shown at its stage, for its end
pub after-batch : (old mid new : Batch) (here : BatchStage) (end so : TxnEnds) (runs : TxnParts) (stage : Option BatchStage) (g : Geometry) (first now later : View) (result : Next TxnPiece (List TxnEnd))
    → old.place.stage ≡ here → end ≡ so → AtBatch old g first now runs → TxnPieceLeaves runs g now end later
    → mid.geometry.now ≡ old.geometry.now → mid.asked ≡ old.asked → IsBatchStep mid stage new result
    → (BatchKnownBy (batch_made old.asked) here (idle old.place) g first now → TxnPieceLeaves (batch_piece g old.place.drawn here) g now so later
    → BatchGoes (batch_made old.asked) mid.place stage (batch_left_by (batch_made old.asked) here old.place g so) g first later)
    → BatchNext old new (batch_left (batch_made old.asked) old.place g end) g first later result
after-batch old mid new here end so runs stage g first now later result at ended placed left same asked step show =
    step-batch old mid new stage (batch_left (batch_made old.asked) old.place g end) g first later result placed.geometry same asked step
    (at-batch (batch_made old.asked) old.place old.geometry.now (λ s e. BatchGoes (batch_made old.asked) mid.place stage (batch_left_by (batch_made old.asked) s old.place g e) g first later) here end so g first now later runs at ended placed left show)

-- the first piece
pub gives-first : (old new : Batch) (page v : ℕ) (runs : TxnParts) (was : Own → List TxnEnd → Type 0) (g : Geometry) (view : View) → old.geometry.now ≡ g → old.place ≡ new_batch_place old.asked.spent
    → new ≡ record old { place = record old.place { stage = Preparing page v } } → runs ≡ batch_piece old.geometry.now old.place.drawn (Preparing page v)
    → RunsBatch (batch_made old.asked) (record (new_batch_place old.asked.spent) { stage = Preparing page v }) was g view view → GivesBatch new runs was g view view
gives-first old new page v runs was g view geometry start is acts run =
    let R : BatchPlace → Type 0 = λ p. RunsBatch (batch_made old.asked) (record p { stage = Preparing page v }) was g view view in
    gives-batch old old new (Preparing page v) runs was g view view geometry refl refl is acts (subst R (sym start) run)
