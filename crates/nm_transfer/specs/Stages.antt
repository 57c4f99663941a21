-- How far a transfer has come.
use Rattle.std.specs.Prelude.{◌≡◌, ◌≢◌, ℕ, zero, suc, ◌+◌, ◌<◌, ◌≤◌, List, [], ◌∷◌, ◌++◌, map, drop, length, All, Option, Some, None, IsSomeAnd, true, false}
use Rattle.nm_base.specs.Geometry.{Geometry}
use Rattle.nm_base.specs.Ranges.{IsWord}
use Rattle.nm_base.specs.HomeWord.{home_word}
use Rattle.nm_base.specs.ShadowWord.{shadow_word}
use Rattle.nm_action.specs.declared.action.Action.{Action}
use Rattle.nm_action.specs.declared.action.Action.TheVariants.{Unlock, Unmap, SetShadow, SetHome, Map}
use Rattle.nm_action.specs.declared.action.Reply.{Reply}
use Rattle.nm_action.specs.Own.{Own}
use Rattle.nm_view.specs.declared.view.Phase.TheVariants.{Taken}
use Rattle.nm_view.specs.declared.view.Fill.TheVariants.{Equal}
use Rattle.nm_view.specs.declared.view.Owned.{Owned}
use Rattle.nm_view.specs.Lists.{erase, first, Once}
use Rattle.nm_view.specs.Views.{Op, View}
use Rattle.nm_view.specs.Operations.{owned_frame, fill_of, IsLookedOver, IsAllTaken, IsFlushEnded}
use Rattle.nm_permit.specs.Permitted.{IsWhole}
use Rattle.nm_event.specs.After.{owning, spoiled}
use Rattle.nm_event.specs.Fitting.{IsTableWord}
use Rattle.nm_compose.specs.Acts.{MayAct, IsAct, IsActed}
use Rattle.nm_compose.specs.Choices.{or_made, IsNewOr, MayBeginOr, IsOr, LeavesOr}
use Rattle.nm_compose.specs.Stages.{Stages}
use Rattle.nm_compose.specs.declared.act.Act.{Act}
use Rattle.nm_compose.specs.declared.or.Or.{Or}
use Rattle.nm_compose.specs.declared.or.Or.TheVariants.{This, Other}
use Rattle.nm_compose.specs.declared.plan.Next.{Next}
use Rattle.nm_compose.specs.declared.plan.Next.TheVariants.{Run, Over}
use Rattle.nm_shoot.specs.declared.shoot.Shoot.{Shoot}
use Rattle.nm_shoot.specs.Shootdown.{IsShootdown}
use Rattle.nm_shoot.specs.Flushed.{MayShoot, IsFlushed}
use Rattle.nm_shoot.specs.Asking.{cpus_of, IsNewShoot}
use Rattle.nm_copying.specs.declared.copies.CopiesMade.{CopiesMade}
use Rattle.nm_copying.specs.declared.copies.Stage.TheVariants as copying
use Rattle.nm_copying.specs.Copying.{told, MayCopies, IsCopying, IsCopied}
use Rattle.nm_copying.specs.declared.copy_run.CopiesRun.{CopiesRun}
use Rattle.nm_copying.specs.Runs.{copies_run_made, IsNewCopiesRun}
use Rattle.nm_vpages.specs.VPages.{most_vpages, at_or_after, AreBelow}
use Rattle.nm_mappings.specs.declared.visits.VisitsMade.{VisitsMade}
use Rattle.nm_mappings.specs.Visits.{IsVisits, MayVisit, IsVisited, raises_made}
use Rattle.nm_mappings.specs.declared.run.Visits.{Visits}
use Rattle.nm_mappings.specs.Runs.{visits_made, IsNewVisitsRun}
use Rattle.nm_transfer.specs.declared.transfer.Source.{Source}
use Rattle.nm_transfer.specs.declared.transfer.Source.TheVariants as sources
use Rattle.nm_transfer.specs.declared.transfer.Stage.{Stage}
use Rattle.nm_transfer.specs.declared.transfer.Stage.TheVariants.{New, Unmapping, Raising, Flushing, Copying, Unshading, Homing, Mapping}
use Rattle.nm_transfer.specs.declared.transfer.TransferMade.{TransferMade}
use Rattle.nm_transfer.specs.declared.transfer.Transfer.{Transfer}
use Rattle.nm_transfer.specs.Words.{mapped_word}
use Rattle.nm_transfer.specs.Transferring.{MapsOf, HomesPage, Fills, Flushes, UnmapsOf}
use Rattle.nm_transfer.specs.Moving.{MayTransfer, still_owned}

-- The pieces.

abbrev pub TransferPieceMade : Type 0
TransferPieceMade = Or Action (Or VisitsMade (Or ℕ CopiesMade))

abbrev pub TransferPieceEnd : Type 0
TransferPieceEnd = Or Reply (Or (List ℕ) (Or ℕ (Unit {0})))

abbrev pub MayTransferPiece : TransferPieceMade → Geometry → View → Type 0
MayTransferPiece = MayBeginOr (λ action g view. MayAct g view action) (MayBeginOr MayVisit (MayBeginOr MayShoot MayCopies))

abbrev pub IsTransferPiece : TransferPieceMade → Geometry → Own → TransferPieceEnd → Type 0
IsTransferPiece = IsOr IsAct (IsOr IsVisits (IsOr (λ cpus g own number. IsShootdown cpus own number) IsCopying))

abbrev pub TransferPieceLeaves : TransferPieceMade → Geometry → View → TransferPieceEnd → View → Type 0
TransferPieceLeaves = LeavesOr (λ action g view reply left. IsActed g view action reply left)
    (LeavesOr (λ made g view found left. IsVisited made view found left)
    (LeavesOr (λ cpus g view number left. IsFlushed g view number left) (λ made g view end left. IsCopied made view left)))

abbrev pub PieceOfTransfer : Type 0
PieceOfTransfer = Or Act (Or Visits (Or Shoot CopiesRun))

-- the data of a piece, and that it has given no action
abbrev pub transfer_piece_made : PieceOfTransfer → TransferPieceMade
transfer_piece_made = or_made (λ a. a.action) (or_made visits_made (or_made cpus_of copies_run_made))

abbrev pub IsNewTransferPiece : PieceOfTransfer → Type 0
IsNewTransferPiece = IsNewOr (λ a. Unit {0}) (IsNewOr IsNewVisitsRun (IsNewOr IsNewShoot IsNewCopiesRun))

-- the word that the reply carries with which a piece ended (0 where it carries none, of which nothing is claimed)
abbrev pub transfer_told : TransferPieceEnd → ℕ
transfer_told (This reply) = told reply
transfer_told (Other end) = 0

-- The stages.

-- the words that were taken so far
abbrev pub taken_in : Option (List (ℕ × ℕ)) → List (ℕ × ℕ)
taken_in None = []
taken_in (Some taken) = taken

-- the stage of a transfer, and the words that it holds
pub record TransferPlace : Type 0 where
  pub stage : Stage
  pub taken : Option (List (ℕ × ℕ))

abbrev pub transfer_place : Transfer → TransferPlace
transfer_place t = record { stage = t.stage; taken = t.taken }

-- it has not begun: there is a virtual page, and no word is taken
pub record IsNewTransfer (t : Transfer) : Type 0 where
  pub start : t.stage ≡ New
  pub none : t.taken ≡ Some []
  pub some : t.made.pages ≡ [] → ⊥
  pub copies : t.made.copies.stage ≡ copying.New

-- it holds a list of words
abbrev pub HoldsWords : Option (List (ℕ × ℕ)) → Type 0
HoldsWords None = ⊥
HoldsWords (Some taken) = Unit {0}

-- it holds a list with room for one word more
abbrev pub CanNote : Option (List (ℕ × ℕ)) → Type 0
CanNote None = ⊥
CanNote (Some taken) = length taken < most_vpages

abbrev pub noted : ℕ → ℕ → Option (List (ℕ × ℕ)) → Option (List (ℕ × ℕ))
noted v word None = None
noted v word (Some taken) = Some (taken ++ (v, word) ∷ [])

-- the piece of a stage
abbrev pub transfer_piece : TransferMade → Stage → TransferPieceMade
transfer_piece made New = This (Unlock made.page)
transfer_piece made (Unmapping v) = This (Unmap v)
transfer_piece made Raising = Other (This (raises_made made.page made.pages))
transfer_piece made Flushing = Other (Other (This made.cpus))
transfer_piece made Copying = Other (Other (Other made.copies.made))
transfer_piece made Unshading = This (SetShadow made.page made.home None)
transfer_piece made Homing = This (SetHome made.page made.frame)
transfer_piece made (Mapping index v word) = This (Map v (mapped_word made.rights made.frame made.hint word))

abbrev pub place_piece : TransferMade → TransferPlace → TransferPieceMade
place_piece made place = transfer_piece made place.stage

-- a stage's piece can be made
abbrev pub MayTransferTo : TransferMade → Stage → Type 0
MayTransferTo made Raising = made.pages ≢ []
MayTransferTo made Copying = made.copies.stage ≡ copying.New
MayTransferTo made _ = Unit {0}

-- where the new home gets its words
abbrev pub filling_from : Source → Stage
filling_from sources.Copy = Copying
filling_from sources.Shadow = Unshading

abbrev pub filling_stage : TransferMade → Stage
filling_stage made = filling_from made.source

-- the stage in which the word of this place is mapped
pub record IsMappingFrom (taken : List (ℕ × ℕ)) (index : ℕ) (stage : Stage) : Type 0 where
  pub vpage : ℕ
  pub word : ℕ
  pub is : stage ≡ Mapping index vpage word
  pub next : drop index taken ≡ (vpage, word) ∷ drop (index + 1) taken

-- the next word is mapped
pub record IsMapRun (old : Transfer) (index : ℕ) (new : Transfer) (piece : PieceOfTransfer) : Type 0 where
  pub stage : Stage
  pub from_place : IsMappingFrom (taken_in old.taken) index stage
  pub is : new ≡ record old { stage = stage }
  pub made : transfer_piece_made piece ≡ transfer_piece old.made stage
  pub new_piece : IsNewTransferPiece piece

-- all words are mapped
pub record IsMapOver (old : Transfer) (index : ℕ) (new : Transfer) (taken : List (ℕ × ℕ)) : Type 0 where
  pub none : drop index (taken_in old.taken) ≡ []
  pub outcome : taken ≡ taken_in old.taken
  pub made : new.made ≡ old.made

-- the word of this place is mapped, or the transfer is over
abbrev pub IsMapNext : Transfer → ℕ → Transfer → Next PieceOfTransfer (List (ℕ × ℕ)) → Type 0
IsMapNext old index new (Run piece) = IsMapRun old index new piece
IsMapNext old index new (Over taken) = IsMapOver old index new taken

-- What is left after the piece of a stage.
abbrev pub transfer_left_of : TransferMade → Stage → List (ℕ × ℕ) → Geometry → TransferPieceEnd → Own → List (ℕ × ℕ) → Type 0
transfer_left_of made New taken g end own outcome = ⊥
transfer_left_of made (Unmapping v) taken g end own outcome = UnmapsOf g made (at_or_after (v + 1) made.pages) (taken ++ (v, transfer_told end) ∷ []) own outcome
transfer_left_of made Raising taken g end own outcome = Flushes g made taken own outcome
transfer_left_of made Flushing taken g end own outcome = Fills g made taken own outcome
transfer_left_of made Copying taken g end own outcome = HomesPage g made taken own outcome
transfer_left_of made Unshading taken g end own outcome = HomesPage g made taken own outcome
transfer_left_of made Homing taken g end own outcome = MapsOf g made taken taken own outcome
transfer_left_of made (Mapping index v word) taken g end own outcome = MapsOf g made (drop (index + 1) taken) taken own outcome

abbrev pub transfer_left : TransferMade → TransferPlace → Geometry → TransferPieceEnd → Own → List (ℕ × ℕ) → Type 0
transfer_left made place g end = transfer_left_of made place.stage (taken_in place.taken) g end

-- What is known of the views.

-- the view with this one operation, these frames owned, so many bumps and so many raises
abbrev pub transfer_held : Op → List Owned → ℕ → ℕ → View → View
transfer_held op owned bumps raises view = record view { ops = op ∷ []; owned = owned; bumps = bumps; raises = raises }

-- the raises noted of virtual pages that were taken since are forgotten
abbrev pub raised_without : List (ℕ × ℕ) → List (ℕ × ℕ) → List (ℕ × ℕ)
raised_without [] raised = raised
raised_without (p ∷ taken) raised = raised_without taken (erase first p.0 raised)

-- an operation of which these words were taken
abbrev pub taken_op : List (ℕ × ℕ) → Op → Op
taken_op [] o = o
taken_op (p ∷ taken) o = record o {
  taken = p ∷ taken;
  phase = Taken;
  due = true;
  flush = None;
  wet = map first (p ∷ taken);
  raised = raised_without (p ∷ taken) o.raised;
}

-- a table word that was taken
pub record IsTakenWord (g : Geometry) (p : ℕ × ℕ) : Type 0 where
  pub bits : IsWord p.1
  pub table : IsTableWord g p.0 p.1
  pub some : p.1 ≢ 0

-- the word of this virtual page is next to be taken
pub record IsUnmapping (made : TransferMade) (v : ℕ) (taken : List (ℕ × ℕ)) (g : Geometry) (view now : View) : Type 0 where
  pub may : MayTransfer made g view
  pub split : made.pages ≡ map first taken ++ v ∷ at_or_after (v + 1) made.pages
  pub small : v < most_vpages
  pub below : AreBelow v (map first taken)
  pub few : length taken ≤ v
  pub once : Once first taken
  pub words : All (IsTakenWord g) taken
  pub is : now ≡ transfer_held (taken_op taken may.op) view.owned view.bumps view.raises view

-- all words were taken
pub record HasTaken (made : TransferMade) (taken : List (ℕ × ℕ)) (g : Geometry) (view : View) : Type 0 where
  pub may : MayTransfer made g view
  pub pages : map first taken ≡ made.pages
  pub some : taken ≡ [] → ⊥
  pub few : length taken ≤ most_vpages
  pub once : Once first taken
  pub words : All (IsTakenWord g) taken

pub record IsRaisingAll (made : TransferMade) (taken : List (ℕ × ℕ)) (g : Geometry) (view now : View) : Type 0 where
  pub has : HasTaken made taken g view
  pub is : now ≡ transfer_held (taken_op taken has.may.op) view.owned view.bumps view.raises view

-- they were raised
pub record IsFlushing (made : TransferMade) (taken : List (ℕ × ℕ)) (g : Geometry) (view now : View) : Type 0 where
  pub has : HasTaken made taken g view
  pub raised : List (ℕ × ℕ)
  pub is : now ≡ transfer_held (record (taken_op taken has.may.op) { wet = []; raised = raised }) view.owned view.bumps (view.raises + length made.pages) view

-- the operation, once its page is out of the table and no translation of it is left
pub record IsPageOut (made : TransferMade) (taken : List (ℕ × ℕ)) (g : Geometry) (o : Op) : Type 0 where
  pub page_is : o.page ≡ made.page
  pub home_is : o.home ≡ Some (home_word made.home)
  pub over : IsLookedOver g made.page o.looked
  pub all : IsAllTaken o.looked o.taken
  pub taken_is : o.taken ≡ taken
  pub phase : o.phase ≡ Taken
  pub uncleared : o.cleared ≡ false
  pub unmoved : o.moved ≡ false
  pub flushed : IsFlushEnded g o

-- what the operation knows of the shadow of the old home
abbrev pub KnowsShadow : Source → TransferMade → Op → Type 0
KnowsShadow sources.Copy made o = o.shadow ≡ Some 0
KnowsShadow sources.Shadow made o = o.shadow ≡ Some (shadow_word made.page (Some made.frame))

-- the shootdown was made
pub record IsFilling (made : TransferMade) (source : Source) (taken : List (ℕ × ℕ)) (g : Geometry) (view now : View) : Type 0 where
  pub has : HasTaken made taken g view
  pub source_is : made.source ≡ source
  pub op : Op
  pub out : IsPageOut made taken g op
  pub copied : op.copied ≡ 0
  pub last : op.last ≡ None
  pub shadow : KnowsShadow source made op
  pub is : now ≡ transfer_held op view.owned (view.bumps + 1) (view.raises + length made.pages) view

-- the new home has its words
pub record IsHoming (made : TransferMade) (taken : List (ℕ × ℕ)) (g : Geometry) (view now : View) : Type 0 where
  pub has : HasTaken made taken g view
  pub op : Op
  pub out : IsPageOut made taken g op
  pub shadow : op.shadow ≡ Some 0
  pub owned : List Owned
  pub whole : IsSomeAnd (fill_of (transfer_held op owned (view.bumps + 1) (view.raises + length made.pages) view) made.frame) (IsWhole g made.page)
  pub rest : erase owned_frame made.frame owned ≡ still_owned made.source made.frame view.owned
  pub is : now ≡ transfer_held op owned (view.bumps + 1) (view.raises + length made.pages) view

-- the operation, once the new home is set, with these words still out of the table
pub record IsHomed (made : TransferMade) (rest : List (ℕ × ℕ)) (g : Geometry) (o : Op) : Type 0 where
  pub page_is : o.page ≡ made.page
  pub home_is : o.home ≡ Some (home_word made.frame)
  pub shadow : o.shadow ≡ Some 0
  pub taken_is : o.taken ≡ rest
  pub phase : o.phase ≡ Taken
  pub uncleared : o.cleared ≡ false
  pub moved : o.moved ≡ true
  pub flushed : IsFlushEnded g o

-- the frames that are owned, after so many virtual pages were mapped: from the first on, nothing is known of the words of
-- the old home
abbrev pub owned_after : ℕ → ℕ → List Owned → List Owned
owned_after page zero owned = owned
owned_after page (suc index) owned = spoiled page owned

-- the frames that are owned once the new home is set
abbrev pub homed_owned : TransferMade → View → List Owned
homed_owned made view = owning made.home (Equal made.page) (still_owned made.source made.frame view.owned)

-- so many virtual pages are mapped
pub record IsMapped (made : TransferMade) (index : ℕ) (taken : List (ℕ × ℕ)) (g : Geometry) (view now : View) : Type 0 where
  pub has : HasTaken made taken g view
  pub op : Op
  pub homed : IsHomed made (drop index taken) g op
  pub is : now ≡ transfer_held op (owned_after made.page index (homed_owned made view)) (view.bumps + 1) (view.raises + length made.pages) view

-- the word of this place is mapped
pub record IsMappingBack (made : TransferMade) (index v word : ℕ) (taken : List (ℕ × ℕ)) (g : Geometry) (view now : View) : Type 0 where
  pub mapped : IsMapped made index taken g view now
  pub next : drop index taken ≡ (v, word) ∷ drop (index + 1) taken

-- what is known at a stage
abbrev pub KnownIn : TransferMade → Stage → List (ℕ × ℕ) → Geometry → View → View → Type 0
KnownIn made New taken g view now = ⊥
KnownIn made (Unmapping v) taken g view now = IsUnmapping made v taken g view now
KnownIn made Raising taken g view now = IsRaisingAll made taken g view now
KnownIn made Flushing taken g view now = IsFlushing made taken g view now
KnownIn made Copying taken g view now = IsFilling made sources.Copy taken g view now
KnownIn made Unshading taken g view now = IsFilling made sources.Shadow taken g view now
KnownIn made Homing taken g view now = IsHoming made taken g view now
KnownIn made (Mapping index v word) taken g view now = IsMappingBack made index v word taken g view now

-- and the transfer holds the words that were taken
abbrev pub KnownInTransfer : TransferMade → Stage → Option (List (ℕ × ℕ)) → Geometry → View → View → Type 0
KnownInTransfer made stage None g view now = ⊥
KnownInTransfer made stage (Some taken) g view now = KnownIn made stage taken g view now

abbrev pub transfer_stages : Stages TransferMade TransferPlace TransferPieceMade TransferPieceEnd (List (ℕ × ℕ))
transfer_stages = record { piece = place_piece; left = transfer_left; known = λ made place g view now. KnownInTransfer made place.stage place.taken g view now }
