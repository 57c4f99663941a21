-- How far the steps before the page is taken out of the table have come.
use Rattle.std.specs.Prelude.{◌≡◌, ◌≢◌, ℕ, ◌-◌, ◌==◌, if◌then◌else◌, List, [], ◌∷◌, length, All, Some, None, false}
use Rattle.nm_base.specs.Geometry.{Geometry, IsGeometry, tier_of, backing_page}
use Rattle.nm_base.specs.Ranges.{IsFrame}
use Rattle.nm_base.specs.HomeWord.{home_word}
use Rattle.nm_base.specs.ShadowWord.{shadow_frame}
use Rattle.nm_action.specs.declared.action.Action.{Action}
use Rattle.nm_action.specs.declared.action.Action.TheVariants.{Lock, Unlock, Mark, Read, SetShadow}
use Rattle.nm_action.specs.declared.action.Cell.TheVariants as cells
use Rattle.nm_action.specs.declared.action.Reply.{Reply}
use Rattle.nm_action.specs.declared.action.Reply.TheVariants as replies
use Rattle.nm_action.specs.declared.spent.Spent.{Spent}
use Rattle.nm_action.specs.Own.{Own}
use Rattle.nm_view.specs.declared.view.Fill.TheVariants.{Raw}
use Rattle.nm_view.specs.declared.view.Scanned.{Scanned}
use Rattle.nm_view.specs.Lists.{find}
use Rattle.nm_view.specs.Views.{Op, View}
use Rattle.nm_view.specs.Operations.{owned_frame, IsLookedMapped}
use Rattle.nm_permit.specs.Permitted.{MayUnlock}
use Rattle.nm_event.specs.After.{owning}
use Rattle.nm_part.specs.Patterns.{Ends}
use Rattle.nm_compose.specs.Acts.{MayAct, IsAct, IsActed}
use Rattle.nm_compose.specs.Choices.{or_made, IsNewOr, MayBeginOr, IsOr, LeavesOr}
use Rattle.nm_compose.specs.declared.act.Act.{Act}
use Rattle.nm_compose.specs.declared.or.Or.{Or}
use Rattle.nm_compose.specs.declared.or.Or.TheVariants.{This, Other}
use Rattle.nm_pool.specs.Pool.{IsPool}
use Rattle.nm_pool.specs.Given.{pool_made, MayBegin, Leaves}
use Rattle.nm_pool.specs.Stages.{made_of, IsNewPool}
use Rattle.nm_pool.specs.declared.job.PoolJob.TheVariants.{Take, Back}
use Rattle.nm_pool.specs.declared.job.PoolMade.{PoolMade}
use Rattle.nm_pool.specs.declared.job.PoolEnd.{PoolEnd}
use Rattle.nm_pool.specs.declared.job.PoolEnd.TheVariants as pools
use Rattle.nm_pool.specs.declared.task.PoolTask.{PoolTask}
use Rattle.nm_vpages.specs.VPages.{vpages_of}
use Rattle.nm_mappings.specs.Visits.{IsVisits, MayVisit, IsVisited, looks_made, arms_made}
use Rattle.nm_mappings.specs.declared.visits.VisitsMade.{VisitsMade}
use Rattle.nm_mappings.specs.declared.run.Visits.{Visits}
use Rattle.nm_mappings.specs.Runs.{visits_made, IsNewVisitsRun}
use Rattle.nm_copying.specs.Copying.{told}
use Rattle.nm_prepare.specs.Worn.{is_worn}
use Rattle.nm_prepare.specs.Preparing.{is_slow_home, tier_above, floor_above}
use Rattle.nm_locked.specs.declared.choose.ChooseMade.{ChooseMade}
use Rattle.nm_locked.specs.declared.choose.Early.{Early}
use Rattle.nm_locked.specs.declared.choose.Early.TheVariants.{Gone, Worn}
use Rattle.nm_locked.specs.declared.choose.Chosen.{Chosen}
use Rattle.nm_locked.specs.declared.choose.Chosen.TheVariants.{Closed, Ready}
use Rattle.nm_locked.specs.declared.choose.Stage.{Stage}
use Rattle.nm_locked.specs.declared.choose.Stage.TheVariants.{New, Locking, Marking, Unlocking, ReadingHome, Looking, Arming, Taking, ReadingShadow, Unshading, PuttingBack}
use Rattle.nm_locked.specs.Choosing.{UnlocksInMove, ClosesInMove, PutsBackInMove, DiscardsInMove, AfterTakeInMove, AfterLooksInMove, AfterHomeInMove, AfterLockInMove}
use Rattle.nm_locked.specs.Chosen.{MayChoose, opened_view, move_looked_op, IsSlowHomeInMove, HasSeenInMove, IsNewFrameInMove}

-- The pieces.

abbrev pub PieceMadeInMove : Type 0
PieceMadeInMove = Or Action (Or VisitsMade PoolMade)

abbrev pub PieceEndInMove : Type 0
PieceEndInMove = Or Reply (Or (List ℕ) PoolEnd)

abbrev pub MayPieceInMove : PieceMadeInMove → Geometry → View → Type 0
MayPieceInMove = MayBeginOr (λ action g view. MayAct g view action) (MayBeginOr MayVisit MayBegin)

abbrev pub IsPoolOf : PoolMade → Geometry → Own → PoolEnd → Type 0
IsPoolOf made g own end = IsPool g made.job own end

abbrev pub IsPieceInMove : PieceMadeInMove → Geometry → Own → PieceEndInMove → Type 0
IsPieceInMove = IsOr IsAct (IsOr IsVisits IsPoolOf)

abbrev pub PieceLeavesInMove : PieceMadeInMove → Geometry → View → PieceEndInMove → View → Type 0
PieceLeavesInMove = LeavesOr (λ action g view reply left. IsActed g view action reply left) (LeavesOr (λ made g view found left. IsVisited made view found left) (λ made g view end left. Leaves g made.job view end left))

abbrev pub PieceInMove : Type 0
PieceInMove = Or Act (Or Visits PoolTask)

-- the data of a piece, and that it has given no action
abbrev pub move_piece_made : PieceInMove → PieceMadeInMove
move_piece_made = or_made (λ a. a.action) (or_made visits_made made_of)

abbrev pub IsNewPieceInMove : PieceInMove → Type 0
IsNewPieceInMove = IsNewOr (λ a. Unit {0}) (IsNewOr IsNewVisitsRun IsNewPool)

-- the reply with which an action ended, the word that it carries, the virtual pages that visits found, and the end of a pool
-- task (of other pieces nothing is claimed by these)
abbrev pub move_reply_in : PieceEndInMove → Reply
move_reply_in (This reply) = reply
move_reply_in (Other end) = replies.Busy 0

abbrev pub move_told_in : PieceEndInMove → ℕ
move_told_in (This reply) = told reply
move_told_in (Other end) = 0

abbrev pub move_found_in : PieceEndInMove → List ℕ
move_found_in (This reply) = []
move_found_in (Other (This found)) = found
move_found_in (Other (Other end)) = []

abbrev pub pool_in : PieceEndInMove → PoolEnd
pool_in (This reply) = pools.Back
pool_in (Other (This found)) = pools.Back
pool_in (Other (Other end)) = end

-- The piece of a stage.
abbrev pub choose_piece : Geometry → ChooseMade → Stage → PieceMadeInMove
choose_piece g made New = This (Lock made.page)
choose_piece g made Locking = This (Lock made.page)
choose_piece g made (Marking early) = This (Mark made.page 2 0)
choose_piece g made (Unlocking early) = This (Unlock made.page)
choose_piece g made ReadingHome = This (Read made.page (cells.Home made.page))
choose_piece g made (Looking home) = Other (This (looks_made made.page (vpages_of g made.page)))
choose_piece g made (Arming early pages) = Other (This (arms_made made.page pages))
choose_piece g made (Taking home pages) = Other (Other (pool_made g (Take (tier_above g home) (floor_above g home))))
choose_piece g made (ReadingShadow home frame pages) = This (Read made.page (cells.Shadow home))
choose_piece g made (Unshading home shadow frame pages) = This (SetShadow made.page home None)
choose_piece g made (PuttingBack home shadow frame pages) = Other (Other (pool_made g (Back (shadow_frame shadow))))

-- a frame of the tier above this home may be taken
pub record MayTakeFromInMove (g : Geometry) (home : ℕ) : Type 0 where
  pub geometry : IsGeometry g
  pub range : IsFrame g home
  pub slow : tier_of g home ≢ 0

-- the numbers of a stage's piece are in range
abbrev pub MayGoInMove : Geometry → ChooseMade → Stage → Type 0
MayGoInMove g made (Looking home) = vpages_of g made.page ≢ []
MayGoInMove g made (Arming early pages) = pages ≢ []
MayGoInMove g made (Taking home pages) = MayTakeFromInMove g home
MayGoInMove g made (PuttingBack home shadow frame pages) = IsFrame g (shadow_frame shadow)
MayGoInMove g made _ = Unit {0}

-- The next stage where there is a choice.

-- after the Lock
abbrev pub move_lock_stage : Spent → Stage
move_lock_stage spent = if is_worn spent then Marking Worn else ReadingHome

-- where these virtual pages are to be armed, and the work ends
abbrev pub move_arm_stage : Early → List ℕ → Stage
move_arm_stage early [] = Marking early
move_arm_stage early (v ∷ vs) = Arming early (v ∷ vs)

-- after the LooksInMove
abbrev pub move_looked_stage : ChooseMade → ℕ → List ℕ → Stage
move_looked_stage made home pages = if length pages == made.count then Taking home pages else move_arm_stage Gone pages

-- where the virtual pages are to be looked at, if there are any
abbrev pub move_look_stage : ChooseMade → ℕ → List ℕ → Stage
move_look_stage made home [] = move_looked_stage made home []
move_look_stage made home (v ∷ vs) = Looking home

-- after the home was read
abbrev pub move_home_stage : Geometry → ChooseMade → ℕ → Stage
move_home_stage g made word = if is_slow_home g word then move_look_stage made (word - 1) (vpages_of g made.page) else Marking Gone

-- What is left after the piece of a stage, by how it ends.
abbrev pub choose_left : ChooseMade → Stage → Geometry → PieceEndInMove → Own → Chosen → Type 0
choose_left made New g end own outcome = ⊥
choose_left made Locking g end own outcome = AfterLockInMove g made (move_reply_in end) own outcome
choose_left made (Marking early) g end own outcome = UnlocksInMove g made early own outcome
choose_left made (Unlocking early) g end own outcome = Ends (Closed early) own outcome
choose_left made ReadingHome g end own outcome = AfterHomeInMove g made (move_told_in end) own outcome
choose_left made (Looking home) g end own outcome = AfterLooksInMove g made home (move_found_in end) own outcome
choose_left made (Arming early pages) g end own outcome = ClosesInMove g made early own outcome
choose_left made (Taking home pages) g end own outcome = AfterTakeInMove g made home pages (pool_in end) own outcome
choose_left made (ReadingShadow home frame pages) g end own outcome = DiscardsInMove g made home (move_told_in end) frame pages own outcome
choose_left made (Unshading home shadow frame pages) g end own outcome = PutsBackInMove g made home shadow frame pages own outcome
choose_left made (PuttingBack home shadow frame pages) g end own outcome = Ends (Ready home frame pages) own outcome

-- What is known of the views.

-- it has begun
pub record IsLockingInMove (made : ChooseMade) (g : Geometry) (view now : View) : Type 0 where
  pub may : MayChoose g made g view
  pub begun : now ≡ view

-- the page is locked, and its operation may be closed
pub record IsOpenInMove (made : ChooseMade) (g : Geometry) (view now : View) : Type 0 where
  pub may : MayChoose g made g view
  pub op : Op
  pub page_is : op.page ≡ made.page
  pub unlock : MayUnlock g op
  pub scan : Scanned
  pub is : now ≡ opened_view op view.owned scan view

-- the page is locked, and numbers enough are left
pub record IsReadingHomeInMove (made : ChooseMade) (g : Geometry) (view now : View) : Type 0 where
  pub may : MayChoose g made g view
  pub left : is_worn made.spent ≡ false
  pub is : now ≡ opened_view (move_looked_op made.page view.room.aliases None None []) view.owned view.scan view

-- the home is read
pub record IsLookingInMove (made : ChooseMade) (home : ℕ) (g : Geometry) (view now : View) : Type 0 where
  pub slow : IsSlowHomeInMove made g view home
  pub is : now ≡ opened_view (move_looked_op made.page view.room.aliases (Some (home_word home)) None []) view.owned view.scan view

-- these virtual pages have words, and the work ends
pub record IsArmingInMove (made : ChooseMade) (pages : List ℕ) (g : Geometry) (view now : View) : Type 0 where
  pub opened : IsOpenInMove made g view now
  pub of : All (λ v. backing_page g v ≡ Some made.page) pages
  pub mapped : All (λ v. IsLookedMapped opened.op.looked opened.op.taken v) pages

-- a frame is to be taken
pub record IsTakingInMove (made : ChooseMade) (home : ℕ) (pages : List ℕ) (g : Geometry) (view now : View) : Type 0 where
  pub slow : IsSlowHomeInMove made g view home
  pub looked : List (ℕ × ℕ)
  pub seen : HasSeenInMove made g pages looked
  pub is : now ≡ opened_view (move_looked_op made.page view.room.aliases (Some (home_word home)) None looked) view.owned view.scan view

-- it was taken: what is known of the page and of the frame
pub record HasGot (made : ChooseMade) (home frame : ℕ) (pages : List ℕ) (g : Geometry) (view : View) : Type 0 where
  pub slow : IsSlowHomeInMove made g view home
  pub new : IsNewFrameInMove g view home frame
  pub looked : List (ℕ × ℕ)
  pub seen : HasSeenInMove made g pages looked
  pub scan : Scanned

pub record IsReadingShadowInMove (made : ChooseMade) (home frame : ℕ) (pages : List ℕ) (g : Geometry) (view now : View) : Type 0 where
  pub got : HasGot made home frame pages g view
  pub is : now ≡ opened_view (move_looked_op made.page view.room.aliases (Some (home_word home)) None got.looked) (owning frame Raw view.owned) got.scan view

-- there is a shadow, whose frame is not owned
pub record HasShadowInMove (made : ChooseMade) (home shadow frame : ℕ) (pages : List ℕ) (g : Geometry) (view : View) : Type 0 where
  pub got : HasGot made home frame pages g view
  pub some : shadow ≢ 0
  pub range : IsFrame g (shadow_frame shadow)
  pub fresh : find owned_frame (shadow_frame shadow) (owning frame Raw view.owned) ≡ None

pub record IsUnshadingInMove (made : ChooseMade) (home shadow frame : ℕ) (pages : List ℕ) (g : Geometry) (view now : View) : Type 0 where
  pub has : HasShadowInMove made home shadow frame pages g view
  pub is : now ≡ opened_view (move_looked_op made.page view.room.aliases (Some (home_word home)) (Some shadow) has.got.looked) (owning frame Raw view.owned) has.got.scan view

-- it is given up, and its frame is owned
pub record IsPuttingBackInMove (made : ChooseMade) (home shadow frame : ℕ) (pages : List ℕ) (g : Geometry) (view now : View) : Type 0 where
  pub has : HasShadowInMove made home shadow frame pages g view
  pub is : now ≡ opened_view (move_looked_op made.page view.room.aliases (Some (home_word home)) (Some 0) has.got.looked) (owning (shadow_frame shadow) Raw (owning frame Raw view.owned)) has.got.scan view

-- what is known at a stage
abbrev pub ChooseKnown : ChooseMade → Stage → Geometry → View → View → Type 0
ChooseKnown made New g view now = ⊥
ChooseKnown made Locking g view now = IsLockingInMove made g view now
ChooseKnown made (Marking early) g view now = IsOpenInMove made g view now
ChooseKnown made (Unlocking early) g view now = IsOpenInMove made g view now
ChooseKnown made ReadingHome g view now = IsReadingHomeInMove made g view now
ChooseKnown made (Looking home) g view now = IsLookingInMove made home g view now
ChooseKnown made (Arming early pages) g view now = IsArmingInMove made pages g view now
ChooseKnown made (Taking home pages) g view now = IsTakingInMove made home pages g view now
ChooseKnown made (ReadingShadow home frame pages) g view now = IsReadingShadowInMove made home frame pages g view now
ChooseKnown made (Unshading home shadow frame pages) g view now = IsUnshadingInMove made home shadow frame pages g view now
ChooseKnown made (PuttingBack home shadow frame pages) g view now = IsPuttingBackInMove made home shadow frame pages g view now
