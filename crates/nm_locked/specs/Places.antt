-- How far a locked move has come.
use Rattle.std.specs.Prelude.{◌≡◌, ◌≢◌, ℕ, ◌+◌, List, [], ◌∷◌, Option, Some, None}
use Rattle.nm_base.specs.Geometry.{Geometry}
use Rattle.nm_base.specs.Ranges.{IsFrame}
use Rattle.nm_action.specs.declared.action.Action.TheVariants.{Lock, Unlock, Mark}
use Rattle.nm_action.specs.Own.{Own}
use Rattle.nm_view.specs.declared.view.Fill.TheVariants.{Equal}
use Rattle.nm_view.specs.declared.view.Scanned.{Scanned}
use Rattle.nm_view.specs.Views.{Op, View}
use Rattle.nm_permit.specs.Permitted.{MayUnlock}
use Rattle.nm_event.specs.After.{owning, spoiled}
use Rattle.nm_part.specs.Patterns.{Ends}
use Rattle.nm_compose.specs.declared.or.Or.{Or}
use Rattle.nm_compose.specs.declared.or.Or.TheVariants.{This, Other}
use Rattle.nm_compose.specs.declared.plan.Next.{Next}
use Rattle.nm_compose.specs.declared.plan.Next.TheVariants.{Run, Over}
use Rattle.nm_pool.specs.Given.{pool_made}
use Rattle.nm_pool.specs.declared.job.PoolJob.TheVariants.{Back}
use Rattle.nm_transfer.specs.Stages.{HoldsWords}
use Rattle.nm_locked.specs.declared.choose.ChooseMade.{ChooseMade}
use Rattle.nm_locked.specs.declared.choose.Chosen.{Chosen}
use Rattle.nm_locked.specs.declared.choose.Chosen.TheVariants as chosen
use Rattle.nm_locked.specs.declared.locked.LockedEnd.{LockedEnd}
use Rattle.nm_locked.specs.declared.locked.LockedEnd.TheVariants.{Moved}
use Rattle.nm_locked.specs.declared.locked.LockedOver.{LockedOver}
use Rattle.nm_locked.specs.declared.locked.LockedStage.{LockedStage}
use Rattle.nm_locked.specs.declared.locked.LockedStage.TheVariants.{Idle, Choosing, Moving, Marking, Unlocking, GivingBack}
use Rattle.nm_locked.specs.declared.locked.Locked.{Locked}
use Rattle.nm_locked.specs.Chosen.{MayChoose, IsSlowHomeInMove, HasReadyInMove}
use Rattle.nm_locked.specs.Moves.{GivesBackInMove, UnlocksMoved, MarksInMove, locked_transfer, AfterChoosing}
use Rattle.nm_locked.specs.Pieces.{LockedParts, LockedPieceEnd, LockedPiece}

-- the stage of a move, and the list that it holds for the words
pub record LockedPlace : Type 0 where
  pub stage : LockedStage
  pub taken : Option (List (ℕ × ℕ))

abbrev pub locked_at : Locked → LockedPlace
locked_at s = record { stage = s.stage; taken = s.taken }

-- it has not begun
pub record IsNewLocked (s : Locked) : Type 0 where
  pub start : s.stage ≡ Idle
  pub words : HoldsWords s.taken

-- it is over with this end
abbrev pub IsOverWith : LockedEnd → Next LockedPiece LockedOver → Type 0
IsOverWith end (Run piece) = ⊥
IsOverWith end (Over over) = over.end ≡ end

-- the piece of a stage
abbrev pub stage_piece : Geometry → ChooseMade → LockedStage → LockedParts
stage_piece g made Idle = Other (Other (This (Lock made.page)))
stage_piece g made Choosing = This (record { 0 = g; 1 = made })
stage_piece g made (Moving home frame pages) = Other (This (locked_transfer g made home frame pages))
stage_piece g made (Marking home) = Other (Other (This (Mark made.page 2 0)))
stage_piece g made (Unlocking home) = Other (Other (This (Unlock made.page)))
stage_piece g made (GivingBack home) = Other (Other (Other (pool_made g (Back home))))

abbrev pub locked_piece : Geometry → ChooseMade → LockedPlace → LockedParts
locked_piece g made place = stage_piece g made place.stage

-- how the steps before ended (of other pieces nothing is claimed by this)
abbrev pub chosen_in : LockedPieceEnd → Chosen
chosen_in (This outcome) = outcome
chosen_in (Other end) = chosen.Busy

-- what is left after the piece of a stage, by how it ends
abbrev pub stage_left : ChooseMade → LockedStage → Geometry → LockedPieceEnd → Own → LockedEnd → Type 0
stage_left made Idle g end own outcome = ⊥
stage_left made Choosing g end own outcome = AfterChoosing g made (chosen_in end) own outcome
stage_left made (Moving home frame pages) g end own outcome = MarksInMove g made home own outcome
stage_left made (Marking home) g end own outcome = UnlocksMoved g made home own outcome
stage_left made (Unlocking home) g end own outcome = GivesBackInMove g made home own outcome
stage_left made (GivingBack home) g end own outcome = Ends Moved own outcome

abbrev pub locked_left : ChooseMade → LockedPlace → Geometry → LockedPieceEnd → Own → LockedOver → Type 0
locked_left made place g end own over = stage_left made place.stage g end own over.end

-- What is known of the views.

-- it has begun
pub record IsChoosingNow (made : ChooseMade) (g : Geometry) (view now : View) : Type 0 where
  pub may : MayChoose g made g view
  pub begun : now ≡ view

-- the page is moved, and its operation may be closed
pub record IsMovedNow (made : ChooseMade) (home : ℕ) (g : Geometry) (view now : View) : Type 0 where
  pub slow : IsSlowHomeInMove made g view home
  pub op : Op
  pub page_is : op.page ≡ made.page
  pub unlock : MayUnlock g op
  pub scan : Scanned
  pub is : now ≡ record view { ops = op ∷ []; owned = spoiled made.page (owning home (Equal made.page) view.owned); scan = scan; bumps = view.bumps + 1; raises = view.raises + made.count }

-- it is unlocked
pub record IsUnlockedNow (made : ChooseMade) (home : ℕ) (g : Geometry) (view now : View) : Type 0 where
  pub slow : IsSlowHomeInMove made g view home
  pub scan : Scanned
  pub is : now ≡ record view { owned = spoiled made.page (owning home (Equal made.page) view.owned); scan = scan; bumps = view.bumps + 1; raises = view.raises + made.count }

abbrev pub StageKnown : ChooseMade → LockedStage → Geometry → View → View → Type 0
StageKnown made Idle g view now = ⊥
StageKnown made Choosing g view now = IsChoosingNow made g view now
StageKnown made (Moving home frame pages) g view now = HasReadyInMove made g view home frame pages now
StageKnown made (Marking home) g view now = IsMovedNow made home g view now
StageKnown made (Unlocking home) g view now = IsMovedNow made home g view now
StageKnown made (GivingBack home) g view now = IsUnlockedNow made home g view now

-- the list for the words is held but while the page is moved
abbrev pub HoldsAt : LockedStage → Option (List (ℕ × ℕ)) → Type 0
HoldsAt (Moving home frame pages) taken = Unit {0}
HoldsAt _ taken = HoldsWords taken

-- what is known at a place
pub record LockedKnown (made : ChooseMade) (place : LockedPlace) (g : Geometry) (view now : View) : Type 0 where
  pub stage : StageKnown made place.stage g view now
  pub words : HoldsAt place.stage place.taken
