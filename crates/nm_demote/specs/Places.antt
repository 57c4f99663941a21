-- How far a demotion has come.
use Rattle.std.specs.Prelude.{◌≡◌, ℕ, ◌+◌, ◌≤◌, List, [], ◌∷◌, Option, Some, None}
use Rattle.nm_base.specs.Geometry.{Geometry}
use Rattle.nm_base.specs.Ranges.{IsFrame}
use Rattle.nm_action.specs.declared.action.Action.TheVariants.{Unlock}
use Rattle.nm_action.specs.Own.{Own}
use Rattle.nm_view.specs.declared.view.Fill.TheVariants.{Equal}
use Rattle.nm_view.specs.declared.view.Owned.{Owned}
use Rattle.nm_view.specs.declared.view.Scanned.{Scanned}
use Rattle.nm_view.specs.Lists.{find}
use Rattle.nm_view.specs.Operations.{owned_frame}
use Rattle.nm_view.specs.Views.{Op, View}
use Rattle.nm_permit.specs.Permitted.{MayUnlock}
use Rattle.nm_event.specs.After.{owning, spoiled}
use Rattle.nm_part.specs.Patterns.{Ends}
use Rattle.nm_compose.specs.declared.or.Or.TheVariants.{This, Other}
use Rattle.nm_compose.specs.declared.plan.Next.{Next}
use Rattle.nm_compose.specs.declared.plan.Next.TheVariants.{Run, Over}
use Rattle.nm_pool.specs.Given.{pool_made}
use Rattle.nm_pool.specs.declared.job.PoolJob.TheVariants.{Back}
use Rattle.nm_reclaim.specs.Swept.{IsForgotten}
use Rattle.nm_transfer.specs.declared.transfer.Rights.TheVariants.{Plain}
use Rattle.nm_transfer.specs.Transferring.{transfer_made}
use Rattle.nm_transfer.specs.Stages.{HoldsWords}
use Rattle.nm_vpages.specs.VPages.{most_vpages}
use Rattle.nm_demote.specs.declared.select.DemoteMade.{DemoteMade}
use Rattle.nm_demote.specs.declared.select.Selected.{Selected}
use Rattle.nm_demote.specs.declared.select.Selected.TheVariants as selected
use Rattle.nm_demote.specs.declared.demote.DemoteEnd.{DemoteEnd}
use Rattle.nm_demote.specs.declared.demote.DemoteOver.{DemoteOver}
use Rattle.nm_demote.specs.declared.demote.DemoteStage.{DemoteStage}
use Rattle.nm_demote.specs.declared.demote.DemoteStage.TheVariants.{Idle, Selecting, Moving, Unlocking, GivingBack}
use Rattle.nm_demote.specs.declared.demote.Demote.{Demote}
use Rattle.nm_demote.specs.Selections.{MayDemote, IsReadyToDemote}
use Rattle.nm_demote.specs.Demotions.{demoted_end, GivesBackDemoted, UnlocksDemoted, AfterSelecting}
use Rattle.nm_demote.specs.Pieces.{DemoteParts, DemotePieceEnd, DemotePiece}

-- the stage of a demotion, and the list that it holds for the words
pub record DemotePlace : Type 0 where
  pub stage : DemoteStage
  pub taken : Option (List (ℕ × ℕ))

abbrev pub demote_at : Demote → DemotePlace
demote_at s = record { stage = s.stage; taken = s.taken }

-- it has not begun
pub record IsNewDemote (s : Demote) : Type 0 where
  pub start : s.stage ≡ Idle
  pub words : HoldsWords s.taken

-- it is over with this end
abbrev pub IsDemoteOverWith : DemoteEnd → Next DemotePiece DemoteOver → Type 0
IsDemoteOverWith end (Run piece) = ⊥
IsDemoteOverWith end (Over over) = over.end ≡ end

-- the piece of a stage
abbrev pub demote_stage_piece : Geometry → DemoteMade → DemoteStage → DemoteParts
demote_stage_piece g made Idle = Other (Other (This (Unlock made.page)))
demote_stage_piece g made Selecting = This (record { 0 = g; 1 = made })
demote_stage_piece g made (Moving home frame source pages) = Other (This (transfer_made g made.page home frame source Plain pages))
demote_stage_piece g made (Unlocking home source) = Other (Other (This (Unlock made.page)))
demote_stage_piece g made (GivingBack home source) = Other (Other (Other (pool_made g (Back home))))

abbrev pub demote_piece : Geometry → DemoteMade → DemotePlace → DemoteParts
demote_piece g made place = demote_stage_piece g made place.stage

-- how the steps before ended (of other pieces nothing is claimed by this)
abbrev pub selected_in : DemotePieceEnd → Selected
selected_in (This outcome) = outcome
selected_in (Other end) = selected.Busy

-- what is left after the piece of a stage, by how it ends
abbrev pub demote_stage_left : DemoteMade → DemoteStage → Geometry → DemotePieceEnd → Own → DemoteEnd → Type 0
demote_stage_left made Idle g end own outcome = ⊥
demote_stage_left made Selecting g end own outcome = AfterSelecting g made (selected_in end) own outcome
demote_stage_left made (Moving home frame source pages) g end own outcome = UnlocksDemoted g made home source own outcome
demote_stage_left made (Unlocking home source) g end own outcome = GivesBackDemoted g home source own outcome
demote_stage_left made (GivingBack home source) g end own outcome = Ends (demoted_end source) own outcome

abbrev pub demote_left : DemoteMade → DemotePlace → Geometry → DemotePieceEnd → Own → DemoteOver → Type 0
demote_left made place g end own over = demote_stage_left made place.stage g end own over.end

-- What is known of the views.

-- it has begun
pub record IsSelectingNow (made : DemoteMade) (g : Geometry) (view now : View) : Type 0 where
  pub may : MayDemote g made g view
  pub begun : now ≡ view

-- the page is moved: its old home was not owned, and its virtual pages, so many, were raised
pub record HasMovedDown (made : DemoteMade) (home : ℕ) (g : Geometry) (view : View) (before : List Owned) (raised : ℕ) : Type 0 where
  pub may : MayDemote g made g view
  pub range : IsFrame g home
  pub forgotten : IsForgotten (Some made.page) view.owned before
  pub unowned : find owned_frame home before ≡ None
  pub some : 1 ≤ raised
  pub few : raised ≤ most_vpages

-- its operation may be closed
pub record IsDemotedNow (made : DemoteMade) (home : ℕ) (g : Geometry) (view now : View) : Type 0 where
  pub before : List Owned
  pub raised : ℕ
  pub has : HasMovedDown made home g view before raised
  pub op : Op
  pub page_is : op.page ≡ made.page
  pub unlock : MayUnlock g op
  pub scan : Scanned
  pub is : now ≡ record view { ops = op ∷ []; owned = spoiled made.page (owning home (Equal made.page) before); scan = scan; bumps = view.bumps + 1; raises = view.raises + raised }

-- it is unlocked
pub record IsUnlockedDown (made : DemoteMade) (home : ℕ) (g : Geometry) (view now : View) : Type 0 where
  pub before : List Owned
  pub raised : ℕ
  pub has : HasMovedDown made home g view before raised
  pub scan : Scanned
  pub is : now ≡ record view { owned = spoiled made.page (owning home (Equal made.page) before); scan = scan; bumps = view.bumps + 1; raises = view.raises + raised }

abbrev pub DemoteStageKnown : DemoteMade → DemoteStage → Geometry → View → View → Type 0
DemoteStageKnown made Idle g view now = ⊥
DemoteStageKnown made Selecting g view now = IsSelectingNow made g view now
DemoteStageKnown made (Moving home frame source pages) g view now = IsReadyToDemote made g view home frame source pages now
DemoteStageKnown made (Unlocking home source) g view now = IsDemotedNow made home g view now
DemoteStageKnown made (GivingBack home source) g view now = IsUnlockedDown made home g view now

-- the list for the words is held but while the page is moved
abbrev pub HoldsWordsAt : DemoteStage → Option (List (ℕ × ℕ)) → Type 0
HoldsWordsAt (Moving home frame source pages) taken = Unit {0}
HoldsWordsAt _ taken = HoldsWords taken

-- what is known at a place
pub record DemoteKnown (made : DemoteMade) (place : DemotePlace) (g : Geometry) (view now : View) : Type 0 where
  pub stage : DemoteStageKnown made place.stage g view now
  pub words : HoldsWordsAt place.stage place.taken
