-- What is known of the views along a batch: the ready pieces, each with its operation and its new frame.
use Rattle.std.specs.Prelude.{◌≡◌, ℕ, ◌+◌, ◌<◌, ◌≤◌, ◌⊎◌, List, [], ◌∷◌, ◌++◌, length, drop, map, All, Some, None, IsSome}
use Rattle.nm_base.specs.Geometry.{Geometry, backing_page, tier_of}
use Rattle.nm_base.specs.Ranges.{IsPage, IsFrame}
use Rattle.nm_view.specs.declared.view.Fill.{Fill}
use Rattle.nm_view.specs.declared.view.Fill.TheVariants.{Raw, Copied}
use Rattle.nm_view.specs.declared.view.Owned.{Owned}
use Rattle.nm_view.specs.declared.view.Scanned.{Scanned}
use Rattle.nm_view.specs.Lists.{find, Once}
use Rattle.nm_view.specs.Views.{Op, View}
use Rattle.nm_view.specs.Operations.{owned_frame}
use Rattle.nm_prepare.specs.Worn.{worn_bumps, worn_raises}
use Rattle.nm_prepare.specs.Ready.{spent_by, IsReadyOp}
use Rattle.nm_commit.specs.Deciding.{IsSwapped}
use Rattle.nm_commit.specs.declared.decide.DecideMade.{DecideMade}
use Rattle.nm_txn.specs.declared.batch.ReadyPiece.{ReadyPiece}
use Rattle.nm_txn.specs.Stages.{IsClearedOp, IsUncopiedOp, IsTakenOp, IsRightful}
use Rattle.nm_txn.specs.Batches.{BatchMade, drawn_with, ready_of, taken_of}
use Rattle.nm_batch.specs.declared.batch.BatchPlace.{BatchPlace}
use Rattle.nm_batch.specs.declared.batch.BatchStage.{BatchStage}
use Rattle.nm_batch.specs.declared.batch.BatchStage.TheVariants.{Idle, Preparing, Flushing, Copying, Unmapping, FlushingAgain, Deciding}
use Rattle.nm_batch.specs.Leaving.{asked_page, MayBatch, spoiled_each}

-- a ready piece, its operation, what is known of the words of its new frame, and the word that was taken
pub record OpenPiece : Type 0 where
  pub piece : ReadyPiece
  pub op : Op
  pub fill : Fill
  pub word : ℕ

abbrev pub open_ready : OpenPiece → ReadyPiece
open_ready p = p.piece

abbrev pub open_page : OpenPiece → ℕ
open_page p = p.piece.page

abbrev pub open_frame : OpenPiece → ℕ
open_frame p = p.piece.frame

abbrev pub open_op : OpenPiece → Op
open_op p = p.op

abbrev pub open_word : OpenPiece → ℕ
open_word p = p.word

abbrev pub open_owned : OpenPiece → Owned
open_owned p = record { frame = p.piece.frame; fill = p.fill }

abbrev pub open_made : OpenPiece → DecideMade
open_made p = record { page = p.piece.page; vpage = p.piece.vpage; word = p.word; home = p.piece.home; frame = p.piece.frame }

-- the frames that are owned: those before, and those of the pieces
abbrev pub owned_with : List Owned → List OpenPiece → List Owned
owned_with base pieces = base ++ map open_owned pieces

-- the view with the operations and frames of these pieces, and so many bumps and raises more
abbrev pub with_open : List OpenPiece → List Owned → Scanned → ℕ → ℕ → View → View
with_open pieces base scan bumps raises view = record view { ops = map open_op pieces; owned = owned_with base pieces; scan = scan; bumps = view.bumps + bumps; raises = view.raises + raises }

-- the numbers of an open piece
pub record IsOpenPiece (made : BatchMade) (g : Geometry) (p : OpenPiece) : Type 0 where
  pub page : IsPage g p.piece.page
  pub asked : IsSome (find asked_page p.piece.page made.pieces)
  pub backing : backing_page g p.piece.vpage ≡ Some p.piece.page
  pub home : IsFrame g p.piece.home
  pub frame : IsFrame g p.piece.frame
  pub faster : tier_of g p.piece.frame < tier_of g p.piece.home
  pub of : p.op.page ≡ p.piece.page

-- no page and no frame stands twice, no new frame was owned before, and no home is owned
pub record AreApart (base : List Owned) (pieces : List OpenPiece) : Type 0 where
  pub pages : Once open_page pieces
  pub frames : Once open_frame pieces
  pub fresh : All (λ p. find owned_frame p.piece.frame base ≡ None) pieces
  pub homes : All (λ p. find owned_frame p.piece.home (owned_with base pieces) ≡ None) pieces

-- these pieces are open, and of all else in the view only what is named has changed since the first view
pub record HasOpen (made : BatchMade) (g : Geometry) (first now : View) (pieces : List OpenPiece) (bumps raises : ℕ) : Type 0 where
  pub may : MayBatch g made g first
  pub pages : List ℕ
  pub named : All (λ b. IsSome (find asked_page b made.pieces)) pages
  pub each : All (IsOpenPiece made g) pieces
  pub apart : AreApart (spoiled_each pages first.owned) pieces
  pub scan : Scanned
  pub is : now ≡ with_open pieces (spoiled_each pages first.owned) scan bumps raises first

-- What is known of each open piece: it is ready;

pub record IsReadyOpen (g : Geometry) (p : OpenPiece) : Type 0 where
  pub op : IsReadyOp g p.piece.page p.piece.vpage p.piece.home p.op
  pub fill : p.fill ≡ Raw

-- the first flush was made;
pub record IsUncopiedOpen (g : Geometry) (p : OpenPiece) : Type 0 where
  pub op : IsUncopiedOp g p.piece.page p.piece.vpage p.piece.home p.op
  pub fill : p.fill ≡ Raw

-- its page is copied;
pub record IsCopiedOpen (g : Geometry) (p : OpenPiece) : Type 0 where
  pub op : IsClearedOp g p.piece.page p.piece.vpage p.piece.home p.op
  pub fill : p.fill ≡ Copied p.piece.page g.words

-- its word was taken;
pub record IsTakenOpen (g : Geometry) (p : OpenPiece) : Type 0 where
  pub op : IsTakenOp g p.piece.page p.piece.vpage p.word p.piece.home p.op
  pub fill : p.fill ≡ Copied p.piece.page g.words
  pub right : IsRightful g p.piece.vpage p.word

-- the second flush was made
pub record IsSwappedOpen (g : Geometry) (p : OpenPiece) : Type 0 where
  pub op : IsSwapped g p.piece.page p.piece.vpage p.word p.piece.home p.op
  pub fill : p.fill ≡ Copied p.piece.page g.words
  pub right : IsRightful g p.piece.vpage p.word

-- the actor has bumps and raises left for a batch
pub record IsUnworn (view : View) : Type 0 where
  pub bumps : view.bumps < worn_bumps
  pub raises : view.raises < worn_raises

-- The loops.

-- some pieces were prepared
pub record HasPrepared (made : BatchMade) (place : BatchPlace) (g : Geometry) (first now : View) : Type 0 where
  pub held : List OpenPiece
  pub has : HasOpen made g first now held 0 (length held)
  pub kind : All (IsReadyOpen g) held
  pub unworn : (place.ready ≡ []) ⊎ IsUnworn first
  pub ready : map open_ready held ≡ place.ready
  pub ready_is : place.ready ≡ ready_of made.pieces place.prepared
  pub within : length place.prepared ≤ length made.pieces
  pub few : length place.ready ≤ length place.prepared
  pub words : place.words ≡ []
  pub decided : place.decided ≡ []
  pub drawn : place.drawn ≡ drawn_with made.spent place.prepared
  pub spent : place.drawn ≡ spent_by now
  pub later : All (λ p. find asked_page p.piece.page (drop (length place.prepared) made.pieces) ≡ None) held

-- all pieces were prepared, and some are ready
pub record IsUnderway (made : BatchMade) (place : BatchPlace) (first : View) : Type 0 where
  pub ready_is : place.ready ≡ ready_of made.pieces place.prepared
  pub all : length place.prepared ≡ length made.pieces
  pub few : length place.ready ≤ length place.prepared
  pub some : 0 < length place.ready
  pub unworn : IsUnworn first
  pub decided : length place.decided ≤ length place.ready

-- the first flush is to be made
pub record IsBatchReady (made : BatchMade) (place : BatchPlace) (g : Geometry) (first now : View) : Type 0 where
  pub underway : IsUnderway made place first
  pub words : place.words ≡ []
  pub decided : place.decided ≡ []
  pub held : List OpenPiece
  pub has : HasOpen made g first now held 0 (length place.ready)
  pub ready : map open_ready held ≡ place.ready
  pub kind : All (IsReadyOpen g) held

-- so many pages are copied
pub record HasCopied (made : BatchMade) (place : BatchPlace) (index : ℕ) (g : Geometry) (first now : View) : Type 0 where
  pub underway : IsUnderway made place first
  pub words : place.words ≡ []
  pub decided : place.decided ≡ []
  pub done : List OpenPiece
  pub rest : List OpenPiece
  pub has : HasOpen made g first now (done ++ rest) 1 (length place.ready)
  pub ready : map open_ready (done ++ rest) ≡ place.ready
  pub at : length done ≡ index
  pub copied : All (IsCopiedOpen g) done
  pub uncopied : All (IsUncopiedOpen g) rest

-- the words of some pieces were taken
pub record HasUnmapped (made : BatchMade) (place : BatchPlace) (g : Geometry) (first now : View) : Type 0 where
  pub underway : IsUnderway made place first
  pub decided : place.decided ≡ []
  pub done : List OpenPiece
  pub rest : List OpenPiece
  pub has : HasOpen made g first now (done ++ rest) 1 (length place.ready + length place.words)
  pub ready : map open_ready (done ++ rest) ≡ place.ready
  pub words : map open_word done ≡ place.words
  pub taken : All (IsTakenOpen g) done
  pub copied : All (IsCopiedOpen g) rest

-- the words of all pieces were taken
pub record IsBatchTaken (made : BatchMade) (place : BatchPlace) (g : Geometry) (first now : View) : Type 0 where
  pub underway : IsUnderway made place first
  pub decided : place.decided ≡ []
  pub held : List OpenPiece
  pub has : HasOpen made g first now held 1 (length place.ready + length place.words)
  pub ready : map open_ready held ≡ place.ready
  pub words : map open_word held ≡ place.words
  pub taken : All (IsTakenOpen g) held

-- some pieces were decided
pub record HasDecidedSome (made : BatchMade) (place : BatchPlace) (g : Geometry) (first now : View) : Type 0 where
  pub underway : IsUnderway made place first
  pub even : length place.words ≡ length place.ready
  pub held : List OpenPiece
  pub has : HasOpen made g first now held 2 (length place.ready + length place.words)
  pub rest : map open_made held ≡ drop (length place.decided) (taken_of place.ready place.words)
  pub swapped : All (IsSwappedOpen g) held

-- a piece is prepared
pub record IsBatchPreparing (made : BatchMade) (place : BatchPlace) (page v : ℕ) (g : Geometry) (first now : View) : Type 0 where
  pub has : HasPrepared made place g first now
  pub next : drop (length place.prepared) made.pieces ≡ (page, v) ∷ drop (length place.prepared + 1) made.pieces

-- a page is copied
pub record IsBatchCopying (made : BatchMade) (place : BatchPlace) (index : ℕ) (piece : ReadyPiece) (g : Geometry) (first now : View) : Type 0 where
  pub has : HasCopied made place index g first now
  pub next : drop index place.ready ≡ piece ∷ drop (index + 1) place.ready

-- a virtual page is unmapped
pub record IsBatchUnmapping (made : BatchMade) (place : BatchPlace) (piece : ReadyPiece) (g : Geometry) (first now : View) : Type 0 where
  pub has : HasUnmapped made place g first now
  pub next : drop (length place.words) place.ready ≡ piece ∷ drop (length place.words + 1) place.ready

-- a piece is decided
pub record IsBatchDeciding (made : BatchMade) (place : BatchPlace) (d : DecideMade) (g : Geometry) (first now : View) : Type 0 where
  pub has : HasDecidedSome made place g first now
  pub next : drop (length place.decided) (taken_of place.ready place.words) ≡ d ∷ drop (length place.decided + 1) (taken_of place.ready place.words)

-- what is known at a stage
abbrev pub BatchKnownBy : BatchMade → BatchStage → BatchPlace → Geometry → View → View → Type 0
BatchKnownBy made Idle place g first now = ⊥
BatchKnownBy made (Preparing page v) place g first now = IsBatchPreparing made place page v g first now
BatchKnownBy made Flushing place g first now = IsBatchReady made place g first now
BatchKnownBy made (Copying index piece) place g first now = IsBatchCopying made place index piece g first now
BatchKnownBy made (Unmapping piece) place g first now = IsBatchUnmapping made place piece g first now
BatchKnownBy made FlushingAgain place g first now = IsBatchTaken made place g first now
BatchKnownBy made (Deciding d) place g first now = IsBatchDeciding made place d g first now

-- a place but for its stage
abbrev pub idle : BatchPlace → BatchPlace
idle place = record place { stage = Idle }

abbrev pub BatchKnown : BatchMade → BatchPlace → Geometry → View → View → Type 0
BatchKnown made place g first now = BatchKnownBy made place.stage (idle place) g first now
