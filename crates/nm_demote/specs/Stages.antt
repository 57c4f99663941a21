-- How far the steps of a demotion before the page is taken out of the table have come.
use Rattle.std.specs.Prelude.{◌≡◌, ◌≢◌, ℕ, ◌+◌, ◌-◌, if◌then◌else◌, List, [], ◌∷◌, Some, None, false}
use Rattle.nm_base.specs.Geometry.{Geometry, IsGeometry, tier_of}
use Rattle.nm_base.specs.HomeWord.{home_word}
use Rattle.nm_base.specs.Ranges.{IsFrame, IsTier}
use Rattle.nm_action.specs.declared.action.Action.{Action}
use Rattle.nm_action.specs.declared.action.Action.TheVariants.{Lock, Unlock, Read}
use Rattle.nm_action.specs.declared.action.Cell.TheVariants as cells
use Rattle.nm_action.specs.declared.action.Reply.{Reply}
use Rattle.nm_action.specs.declared.action.Reply.TheVariants as replies
use Rattle.nm_action.specs.declared.spent.Spent.{Spent}
use Rattle.nm_action.specs.Own.{Own}
use Rattle.nm_view.specs.declared.view.Owned.{Owned}
use Rattle.nm_view.specs.declared.view.Scanned.{Scanned}
use Rattle.nm_view.specs.Views.{Op, View}
use Rattle.nm_permit.specs.Permitted.{MayUnlock}
use Rattle.nm_event.specs.Fitting.{IsNewsOfShadow, IsNotOwned}
use Rattle.nm_base.specs.ShadowWord.{shadow_frame}
use Rattle.nm_part.specs.Patterns.{Ends}
use Rattle.nm_compose.specs.Acts.{MayAct, IsAct, IsActed}
use Rattle.nm_compose.specs.Choices.{or_made, IsNewOr, MayBeginOr, IsOr, LeavesOr}
use Rattle.nm_compose.specs.declared.act.Act.{Act}
use Rattle.nm_compose.specs.declared.or.Or.{Or}
use Rattle.nm_compose.specs.declared.or.Or.TheVariants.{This, Other}
use Rattle.nm_vpages.specs.VPages.{vpages_of}
use Rattle.nm_mappings.specs.Visits.{IsVisits, MayVisit, IsVisited, looks_made}
use Rattle.nm_mappings.specs.declared.visits.VisitsMade.{VisitsMade}
use Rattle.nm_mappings.specs.declared.run.Visits.{Visits}
use Rattle.nm_mappings.specs.Runs.{visits_made, IsNewVisitsRun}
use Rattle.nm_copying.specs.Copying.{told}
use Rattle.nm_obtain.specs.Obtaining.{IsObtained}
use Rattle.nm_obtain.specs.declared.run.ObtainRun.{ObtainRun}
use Rattle.nm_obtain.specs.Runs.{ObtainData, MayObtainOf, IsObtainOf, obtain_run_made, IsNewObtainRun}
use Rattle.nm_obtain.specs.declared.obtain.Obtained.{Obtained}
use Rattle.nm_obtain.specs.declared.obtain.Obtained.TheVariants.{AtFloor}
use Rattle.nm_prepare.specs.Worn.{is_worn}
use Rattle.nm_locked.specs.Chosen.{opened_view, move_looked_op}
use Rattle.nm_reclaim.specs.Swept.{IsForgotten}
use Rattle.nm_demote.specs.declared.select.DemoteMade.{DemoteMade}
use Rattle.nm_demote.specs.declared.select.Early.TheVariants.{Gone, Worn}
use Rattle.nm_demote.specs.declared.select.Selected.{Selected}
use Rattle.nm_demote.specs.declared.select.Selected.TheVariants.{Closed}
use Rattle.nm_demote.specs.declared.select.Stage.{Stage}
use Rattle.nm_demote.specs.declared.select.Stage.TheVariants.{New, Locking, Unlocking, ReadingHome, ReadingShadow, Looking, Obtaining}
use Rattle.nm_demote.specs.Selecting.{AfterObtain, obtain_for, AfterLooksToDemote, LooksToDemote, has_slower, AfterHomeToDemote, AfterLockToDemote}
use Rattle.nm_demote.specs.Selections.{MayDemote, IsFastHome, HasSeenToDemote}

-- The pieces.

abbrev pub SelectParts : Type 0
SelectParts = Or Action (Or VisitsMade ObtainData)

abbrev pub SelectPieceEnd : Type 0
SelectPieceEnd = Or Reply (Or (List ℕ) Obtained)

abbrev pub MaySelectPiece : SelectParts → Geometry → View → Type 0
MaySelectPiece = MayBeginOr (λ action g view. MayAct g view action) (MayBeginOr MayVisit MayObtainOf)

abbrev pub IsSelectPiece : SelectParts → Geometry → Own → SelectPieceEnd → Type 0
IsSelectPiece = IsOr IsAct (IsOr IsVisits IsObtainOf)

abbrev pub SelectPieceLeaves : SelectParts → Geometry → View → SelectPieceEnd → View → Type 0
SelectPieceLeaves = LeavesOr (λ action g view reply left. IsActed g view action reply left) (LeavesOr (λ made g view found left. IsVisited made view found left) (λ (made : ObtainData) g view outcome left. IsObtained made.1 g view outcome left))

abbrev pub SelectPiece : Type 0
SelectPiece = Or Act (Or Visits ObtainRun)

-- the data of a piece, and that it has given no action
abbrev pub select_piece_made : SelectPiece → SelectParts
select_piece_made = or_made (λ a. a.action) (or_made visits_made obtain_run_made)

abbrev pub IsNewSelectPiece : SelectPiece → Type 0
IsNewSelectPiece = IsNewOr (λ a. Unit {0}) (IsNewOr IsNewVisitsRun IsNewObtainRun)

-- the reply with which an action ended, the word that it carries, the virtual pages that visits found, and how the search for
-- a frame ended (of other pieces nothing is claimed by these)
abbrev pub reply_in_selecting : SelectPieceEnd → Reply
reply_in_selecting (This reply) = reply
reply_in_selecting (Other end) = replies.Busy 0

abbrev pub told_in_selecting : SelectPieceEnd → ℕ
told_in_selecting (This reply) = told reply
told_in_selecting (Other end) = 0

abbrev pub found_in_selecting : SelectPieceEnd → List ℕ
found_in_selecting (This reply) = []
found_in_selecting (Other (This found)) = found
found_in_selecting (Other (Other end)) = []

abbrev pub obtained_in : SelectPieceEnd → Obtained
obtained_in (This reply) = AtFloor 0
obtained_in (Other (This found)) = AtFloor 0
obtained_in (Other (Other end)) = end

-- The piece of a stage.
abbrev pub select_piece : Geometry → DemoteMade → Stage → SelectParts
select_piece g made New = This (Lock made.page)
select_piece g made Locking = This (Lock made.page)
select_piece g made (Unlocking early) = This (Unlock made.page)
select_piece g made ReadingHome = This (Read made.page (cells.Home made.page))
select_piece g made (ReadingShadow home) = This (Read made.page (cells.Shadow home))
select_piece g made (Looking home shadow) = Other (This (looks_made made.page (vpages_of g made.page)))
select_piece g made (Obtaining home pages) = Other (Other (g, obtain_for g made home))

-- a frame of the tier after that of this home may be sought
pub record MaySeekFrom (g : Geometry) (home : ℕ) : Type 0 where
  pub geometry : IsGeometry g
  pub range : IsFrame g home
  pub exists : IsTier g (tier_of g home + 1)

-- the numbers of a stage's piece are in range
abbrev pub MayGoToSelect : Geometry → DemoteMade → Stage → Type 0
MayGoToSelect g made (Looking home shadow) = vpages_of g made.page ≢ []
MayGoToSelect g made (Obtaining home pages) = MaySeekFrom g home
MayGoToSelect g made _ = Unit {0}

-- The next stage where there is a choice.

-- after the Lock
abbrev pub demote_lock_stage : Spent → Stage
demote_lock_stage spent = if is_worn spent then Unlocking Worn else ReadingHome

-- after the home was read
abbrev pub demote_home_stage : Geometry → ℕ → Stage
demote_home_stage g word = if has_slower g word then ReadingShadow (word - 1) else Unlocking Gone

-- where the virtual pages are to be looked at, if there are any
abbrev pub demote_look_from : ℕ → ℕ → List ℕ → Stage
demote_look_from home shadow [] = Unlocking Gone
demote_look_from home shadow (v ∷ vs) = Looking home shadow

abbrev pub demote_look_stage : Geometry → DemoteMade → ℕ → ℕ → Stage
demote_look_stage g made home shadow = demote_look_from home shadow (vpages_of g made.page)

-- What is left after the piece of a stage, by how it ends.
abbrev pub select_left : DemoteMade → Stage → Geometry → SelectPieceEnd → Own → Selected → Type 0
select_left made New g end own outcome = ⊥
select_left made Locking g end own outcome = AfterLockToDemote g made (reply_in_selecting end) own outcome
select_left made (Unlocking early) g end own outcome = Ends (Closed early) own outcome
select_left made ReadingHome g end own outcome = AfterHomeToDemote g made (told_in_selecting end) own outcome
select_left made (ReadingShadow home) g end own outcome = LooksToDemote g made home (told_in_selecting end) own outcome
select_left made (Looking home shadow) g end own outcome = AfterLooksToDemote g made home shadow (found_in_selecting end) own outcome
select_left made (Obtaining home pages) g end own outcome = AfterObtain g made home pages (obtained_in end) own outcome

-- What is known of the views.

-- it has begun
pub record IsLockingToDemote (made : DemoteMade) (g : Geometry) (view now : View) : Type 0 where
  pub may : MayDemote g made g view
  pub begun : now ≡ view

-- the page is locked, and its operation may be closed
pub record IsOpenToDemote (made : DemoteMade) (g : Geometry) (view now : View) : Type 0 where
  pub may : MayDemote g made g view
  pub op : Op
  pub page_is : op.page ≡ made.page
  pub unlock : MayUnlock g op
  pub before : List Owned
  pub forgotten : IsForgotten (Some made.page) view.owned before
  pub scan : Scanned
  pub is : now ≡ opened_view op before scan view

-- the page is locked, and numbers enough are left
pub record IsReadingHomeToDemote (made : DemoteMade) (g : Geometry) (view now : View) : Type 0 where
  pub may : MayDemote g made g view
  pub left : is_worn made.spent ≡ false
  pub is : now ≡ opened_view (move_looked_op made.page view.room.aliases None None []) view.owned view.scan view

-- the home is read
pub record IsReadingShadowToDemote (made : DemoteMade) (home : ℕ) (g : Geometry) (view now : View) : Type 0 where
  pub fast : IsFastHome made g view home
  pub is : now ≡ opened_view (move_looked_op made.page view.room.aliases (Some (home_word home)) None []) view.owned view.scan view

-- so is its shadow word, and a shadow is not owned
pub record HasShadowWord (made : DemoteMade) (g : Geometry) (view : View) (home shadow : ℕ) : Type 0 where
  pub fast : IsFastHome made g view home
  pub news : IsNewsOfShadow g made.page home shadow
  pub free : shadow ≢ 0 → IsNotOwned view (shadow_frame shadow)

pub record IsLookingToDemote (made : DemoteMade) (home shadow : ℕ) (g : Geometry) (view now : View) : Type 0 where
  pub has : HasShadowWord made g view home shadow
  pub is : now ≡ opened_view (move_looked_op made.page view.room.aliases (Some (home_word home)) (Some shadow) []) view.owned view.scan view

-- there is no shadow, and a frame is sought
pub record IsObtainingToDemote (made : DemoteMade) (home : ℕ) (pages : List ℕ) (g : Geometry) (view now : View) : Type 0 where
  pub fast : IsFastHome made g view home
  pub looked : List (ℕ × ℕ)
  pub seen : HasSeenToDemote made g pages looked
  pub some : pages ≢ []
  pub is : now ≡ opened_view (move_looked_op made.page view.room.aliases (Some (home_word home)) (Some 0) looked) view.owned view.scan view

-- what is known at a stage
abbrev pub SelectKnown : DemoteMade → Stage → Geometry → View → View → Type 0
SelectKnown made New g view now = ⊥
SelectKnown made Locking g view now = IsLockingToDemote made g view now
SelectKnown made (Unlocking early) g view now = IsOpenToDemote made g view now
SelectKnown made ReadingHome g view now = IsReadingHomeToDemote made g view now
SelectKnown made (ReadingShadow home) g view now = IsReadingShadowToDemote made home g view now
SelectKnown made (Looking home shadow) g view now = IsLookingToDemote made home shadow g view now
SelectKnown made (Obtaining home pages) g view now = IsObtainingToDemote made home pages g view now
