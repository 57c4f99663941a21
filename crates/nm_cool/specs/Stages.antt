-- How far the cooling of a candidate has come.
use Rattle.std.specs.Prelude.{◌≡◌, ◌≢◌, ℕ, List, [], ◌∷◌, ◌++◌, All, Some, IsSomeAnd}
use Rattle.nm_base.specs.Geometry.{Geometry, backing_page}
use Rattle.nm_action.specs.declared.action.Action.{Action}
use Rattle.nm_action.specs.declared.action.Action.TheVariants.{Lock, Unlock, Mark}
use Rattle.nm_action.specs.declared.action.Reply.{Reply}
use Rattle.nm_action.specs.declared.action.Reply.TheVariants as replies
use Rattle.nm_action.specs.Own.{Own}
use Rattle.nm_view.specs.Lists.{find, first}
use Rattle.nm_view.specs.Views.{Op, View}
use Rattle.nm_view.specs.Opening.{opened}
use Rattle.nm_part.specs.Patterns.{Ends}
use Rattle.nm_compose.specs.Acts.{MayAct, IsAct, IsActed}
use Rattle.nm_compose.specs.Choices.{or_made, IsNewOr, MayBeginOr, IsOr, LeavesOr}
use Rattle.nm_compose.specs.Stages.{Stages}
use Rattle.nm_compose.specs.declared.act.Act.{Act}
use Rattle.nm_compose.specs.declared.or.Or.{Or}
use Rattle.nm_compose.specs.declared.or.Or.TheVariants.{This, Other}
use Rattle.nm_vpages.specs.VPages.{vpages_of}
use Rattle.nm_mappings.specs.Visits.{IsVisits, MayVisit, IsVisited, arms_made}
use Rattle.nm_mappings.specs.declared.visits.VisitsMade.{VisitsMade}
use Rattle.nm_mappings.specs.declared.run.Visits.{Visits}
use Rattle.nm_mappings.specs.Runs.{visits_made, IsNewVisitsRun}
use Rattle.nm_looks.specs.declared.seen.Seen.{Seen}
use Rattle.nm_looks.specs.Seeing.{LooksData, IsLooks, MayLooks, HasLooked}
use Rattle.nm_looks.specs.declared.run.LooksRun.{LooksRun}
use Rattle.nm_looks.specs.Parts.{page_looks, looks_run_made, IsNewLooksRun}
use Rattle.nm_cool.specs.declared.cool.Cool.{Cool}
use Rattle.nm_cool.specs.declared.cool.CoolStage.{CoolStage}
use Rattle.nm_cool.specs.declared.cool.CoolStage.TheVariants.{New, Locking, Looking, Arming, Marking, Unlocking}
use Rattle.nm_cool.specs.declared.cool.Cooled.{Cooled}
use Rattle.nm_cool.specs.declared.cool.Cooled.TheVariants.{Cold}
use Rattle.nm_cool.specs.Cooling.{CoolData, UnlocksCold, MarksCold, ArmsCold, AfterColdLock, MayCool}

abbrev pub cool_data : Cool → CoolData
cool_data plan = record { 0 = plan.geometry.now; 1 = plan.page }

-- The pieces.

abbrev pub CoolPieceMade : Type 0
CoolPieceMade = Or Action (Or LooksData VisitsMade)

abbrev pub CoolPieceEnd : Type 0
CoolPieceEnd = Or Reply (Or Seen (List ℕ))

abbrev pub MayCoolPiece : CoolPieceMade → Geometry → View → Type 0
MayCoolPiece = MayBeginOr (λ action g view. MayAct g view action) (MayBeginOr MayLooks MayVisit)

abbrev pub IsCoolPiece : CoolPieceMade → Geometry → Own → CoolPieceEnd → Type 0
IsCoolPiece = IsOr IsAct (IsOr IsLooks IsVisits)

abbrev pub CoolPieceLeaves : CoolPieceMade → Geometry → View → CoolPieceEnd → View → Type 0
CoolPieceLeaves = LeavesOr (λ action g view reply left. IsActed g view action reply left) (LeavesOr (λ made g view seen left. HasLooked made view seen left) (λ made g view found left. IsVisited made view found left))

abbrev pub ArmsPart : Type 0
ArmsPart = Visits

abbrev pub CoolPiece : Type 0
CoolPiece = Or Act (Or LooksRun ArmsPart)

-- the data of a piece, and that it has given no action
abbrev pub cool_piece_made : CoolPiece → CoolPieceMade
cool_piece_made = or_made (λ a. a.action) (or_made looks_run_made visits_made)

abbrev pub IsNewArmsPart : ArmsPart → Type 0
IsNewArmsPart = IsNewVisitsRun

abbrev pub IsNewCoolPiece : CoolPiece → Type 0
IsNewCoolPiece = IsNewOr (λ a. Unit {0}) (IsNewOr IsNewLooksRun IsNewArmsPart)

-- the reply with which an action ended, and the virtual pages that Looks saw outside tier 0 (of other pieces nothing is
-- claimed by these)
abbrev pub cool_reply : CoolPieceEnd → Reply
cool_reply (This reply) = reply
cool_reply (Other end) = replies.Busy 0

abbrev pub outside_in : CoolPieceEnd → List ℕ
outside_in (This reply) = []
outside_in (Other (This seen)) = seen.outside
outside_in (Other (Other found)) = []

-- The piece of a stage.
abbrev pub cool_piece : CoolData → CoolStage → CoolPieceMade
cool_piece made New = This (Lock made.1)
cool_piece made Locking = This (Lock made.1)
cool_piece made Looking = Other (This (page_looks made.0 made.1 0))
cool_piece made (Arming pages) = Other (Other (arms_made made.1 pages))
cool_piece made Marking = This (Mark made.1 1 0)
cool_piece made Unlocking = This (Unlock made.1)

-- there is something to look at or to arm
abbrev pub MayGoCool : CoolData → CoolStage → Type 0
MayGoCool made Looking = vpages_of made.0 made.1 ≢ []
MayGoCool made (Arming pages) = pages ≢ []
MayGoCool made _ = Unit {0}

-- where these virtual pages are to be armed
abbrev pub cool_arm_stage : List ℕ → CoolStage
cool_arm_stage [] = Marking
cool_arm_stage (v ∷ vs) = Arming (v ∷ vs)

-- What is left after the piece of a stage, by how it ends.
abbrev pub cool_left : CoolData → CoolStage → Geometry → CoolPieceEnd → Own → Cooled → Type 0
cool_left made New g end own outcome = ⊥
cool_left made Locking g end own outcome = AfterColdLock made g (cool_reply end) own outcome
cool_left made Looking g end own outcome = ArmsCold made g (outside_in end) own outcome
cool_left made (Arming pages) g end own outcome = MarksCold made g own outcome
cool_left made Marking g end own outcome = UnlocksCold made g own outcome
cool_left made Unlocking g end own outcome = Ends Cold own outcome

-- What is known of the views.

-- the page is not locked yet
pub record IsColdLocking (made : CoolData) (g : Geometry) (view now : View) : Type 0 where
  pub may : MayCool made g view
  pub begun : now ≡ view

-- the operation on the page, which has looked at this and changed nothing
abbrev pub cold_op : ℕ → ℕ → List (ℕ × ℕ) → Op
cold_op page room looked = record (opened page room) { looked = looked }

abbrev pub cold_view : ℕ → List (ℕ × ℕ) → View → View
cold_view page looked view = record view { ops = view.ops ++ cold_op page view.room.aliases looked ∷ [] }

-- the page is locked, and this was looked at
pub record IsColdOpen (made : CoolData) (looked : List (ℕ × ℕ)) (g : Geometry) (view now : View) : Type 0 where
  pub may : MayCool made g view
  pub is : now ≡ cold_view made.1 looked view

-- the virtual pages are to be armed: they are of the page, and were looked at as not 0
pub record IsColdArming (made : CoolData) (pages : List ℕ) (g : Geometry) (view now : View) : Type 0 where
  pub looked : List (ℕ × ℕ)
  pub opened : IsColdOpen made looked g view now
  pub of : All (λ v. backing_page g v ≡ Some made.1) pages
  pub mapped : All (λ v. IsSomeAnd (find first v looked) (λ p. p.1 ≢ 0)) pages

-- the virtual pages are armed
pub record IsColdArmed (made : CoolData) (g : Geometry) (view now : View) : Type 0 where
  pub looked : List (ℕ × ℕ)
  pub opened : IsColdOpen made looked g view now

-- what is known at a stage
abbrev pub KnownInCool : CoolData → CoolStage → Geometry → View → View → Type 0
KnownInCool made New g view now = ⊥
KnownInCool made Locking g view now = IsColdLocking made g view now
KnownInCool made Looking g view now = IsColdOpen made [] g view now
KnownInCool made (Arming pages) g view now = IsColdArming made pages g view now
KnownInCool made Marking g view now = IsColdArmed made g view now
KnownInCool made Unlocking g view now = IsColdArmed made g view now

abbrev pub cool_stages : Stages CoolData CoolStage CoolPieceMade CoolPieceEnd Cooled
cool_stages = record { piece = cool_piece; left = cool_left; known = KnownInCool }
