-- How far the steps up to the first flush have come.
use Rattle.std.specs.Prelude.{◌≡◌, ◌≢◌, ℕ, ◌-◌, ◌⊎◌, ◌==◌, if◌then◌else◌, false, List, [], ◌∷◌, ◌++◌, All, Option, Some, None, IsSomeAnd}
use Rattle.nm_base.specs.Geometry.{Geometry, IsGeometry, tier_of, backing_page}
use Rattle.nm_base.specs.Ranges.{IsFrame}
use Rattle.nm_base.specs.HomeWord.{home_word}
use Rattle.nm_base.specs.ShadowWord.{shadow_frame}
use Rattle.nm_action.specs.declared.action.Action.{Action}
use Rattle.nm_action.specs.declared.action.Action.TheVariants.{Lock, Unlock, Mark, Read, SetShadow, ClearDirty, Raise, Arm}
use Rattle.nm_action.specs.declared.action.Cell.TheVariants as cells
use Rattle.nm_action.specs.declared.action.Reply.{Reply}
use Rattle.nm_action.specs.Own.{Own}
use Rattle.nm_action.specs.declared.spent.Spent.{Spent}
use Rattle.nm_view.specs.declared.view.Fill.TheVariants.{Raw}
use Rattle.nm_view.specs.declared.view.Owned.{Owned}
use Rattle.nm_view.specs.declared.view.Scanned.{Scanned}
use Rattle.nm_view.specs.Lists.{find, first}
use Rattle.nm_view.specs.Views.{Op, View}
use Rattle.nm_view.specs.Opening.{opened}
use Rattle.nm_view.specs.Operations.{IsLookedMapped, IsLookedOver, IsInLastTier}
use Rattle.nm_permit.specs.Permitted.{MayUnlock}
use Rattle.nm_event.specs.After.{owning, cleared_at}
use Rattle.nm_event.specs.Fitting.{IsNotOwned, IsNewsOfShadow}
use Rattle.nm_part.specs.Patterns.{Ends, Follows}
use Rattle.nm_compose.specs.Acts.{MayAct, IsAct, IsActed}
use Rattle.nm_compose.specs.Choices.{or_made, IsNewOr, MayBeginOr, IsOr, LeavesOr}
use Rattle.nm_compose.specs.declared.act.Act.{Act}
use Rattle.nm_compose.specs.declared.or.Or.{Or}
use Rattle.nm_compose.specs.declared.or.Or.TheVariants.{This, Other}
use Rattle.nm_pool.specs.Pool.{IsPool}
use Rattle.nm_pool.specs.Given.{pool_made, MayBegin, Leaves}
use Rattle.nm_pool.specs.declared.job.PoolJob.TheVariants.{Take, Back}
use Rattle.nm_pool.specs.Stages.{made_of, IsNewPool}
use Rattle.nm_pool.specs.declared.job.PoolMade.{PoolMade}
use Rattle.nm_pool.specs.declared.task.PoolTask.{PoolTask}
use Rattle.nm_pool.specs.declared.job.PoolEnd.{PoolEnd}
use Rattle.nm_vpages.specs.VPages.{vpages_of}
use Rattle.nm_mappings.specs.Visits.{IsVisits, MayVisit, IsVisited, looks_made, arms_made}
use Rattle.nm_mappings.specs.declared.visits.VisitsMade.{VisitsMade}
use Rattle.nm_mappings.specs.declared.run.Visits.{Visits}
use Rattle.nm_mappings.specs.Runs.{visits_made, IsNewVisitsRun}
use Rattle.nm_copying.specs.Copying.{told}
use Rattle.nm_prepare.specs.declared.prepare.PrepareMade.{PrepareMade}
use Rattle.nm_prepare.specs.declared.prepare.Early.TheVariants.{NoFrame, Gone, Worn}
use Rattle.nm_prepare.specs.declared.prepare.Prepared.{Prepared}
use Rattle.nm_prepare.specs.declared.prepare.Prepared.TheVariants.{Closed, Ready}
use Rattle.nm_prepare.specs.declared.prepare.Stage.{Stage}
use Rattle.nm_prepare.specs.declared.prepare.Stage.TheVariants.{New, Locking, Marking, Unlocking, ReadingHome, Looking, Arming, ReadingShadow, Taking, ArmingOne, Unshading, PuttingBack, Clearing, Raising}
use Rattle.nm_prepare.specs.Worn.{is_worn}
use Rattle.nm_prepare.specs.Preparing.{is_slow_home, is_only, is_in_last, tier_above, floor_above, Closes, Clears, AfterTake, Takes, AfterLooks, AfterHome, AfterLock}
use Rattle.nm_prepare.specs.Ready.{MayPrepare, IsNewFrame}

-- The pieces: an action, visits of the page's virtual pages, or a task on the free frames.

abbrev pub PieceMade : Type 0
PieceMade = Or Action (Or VisitsMade PoolMade)

abbrev pub PieceEnd : Type 0
PieceEnd = Or Reply (Or (List ℕ) PoolEnd)

abbrev pub MayPiece : PieceMade → Geometry → View → Type 0
MayPiece = MayBeginOr (λ action g view. MayAct g view action) (MayBeginOr MayVisit MayBegin)

abbrev pub IsPreparePiece : PieceMade → Geometry → Own → PieceEnd → Type 0
IsPreparePiece = IsOr IsAct (IsOr IsVisits (λ made g own end. IsPool g made.job own end))

abbrev pub PieceLeaves : PieceMade → Geometry → View → PieceEnd → View → Type 0
PieceLeaves = LeavesOr (λ action g view reply left. IsActed g view action reply left) (LeavesOr (λ made g view found left. IsVisited made view found left) (λ made g view end left. Leaves g made.job view end left))

-- the data of a piece, and that it has given no action
abbrev pub Piece : Type 0
Piece = Or Act (Or Visits PoolTask)

abbrev pub piece_made : Piece → PieceMade
piece_made = or_made (λ a. a.action) (or_made visits_made made_of)

abbrev pub IsNewPiece : Piece → Type 0
IsNewPiece = IsNewOr (λ a. Unit {0}) (IsNewOr IsNewVisitsRun IsNewPool)

-- the word that the reply carries with which a piece ended (0 where it carries none, of which nothing is claimed)
abbrev pub told_in : PieceEnd → ℕ
told_in (This reply) = told reply
told_in (Other end) = 0

-- the virtual pages that visits found (none where the piece was no visits, of which nothing is claimed)
abbrev pub prepare_found : PieceEnd → List ℕ
prepare_found (This reply) = []
prepare_found (Other (This found)) = found
prepare_found (Other (Other end)) = []

-- the piece of a stage
abbrev pub prepare_piece : Geometry → PrepareMade → Stage → PieceMade
prepare_piece g made New = This (Lock made.page)
prepare_piece g made Locking = This (Lock made.page)
prepare_piece g made (Marking early) = This (Mark made.page 2 0)
prepare_piece g made (Unlocking early) = This (Unlock made.page)
prepare_piece g made ReadingHome = This (Read made.page (cells.Home made.page))
prepare_piece g made (Looking home) = Other (This (looks_made made.page (vpages_of g made.page)))
prepare_piece g made (Arming found) = Other (This (arms_made made.page found))
prepare_piece g made (ReadingShadow home) = This (Read made.page (cells.Shadow home))
prepare_piece g made (Taking home shadow) = Other (Other (pool_made g (Take (tier_above g home) (floor_above g home))))
prepare_piece g made (ArmingOne n) = This (Arm made.vpage)
prepare_piece g made (Unshading home shadow frame) = This (SetShadow made.page home None)
prepare_piece g made (PuttingBack home shadow frame) = Other (Other (pool_made g (Back (shadow_frame shadow))))
prepare_piece g made (Clearing home frame) = This (ClearDirty made.vpage)
prepare_piece g made (Raising home frame) = This (Raise made.vpage)

-- a frame of the tier above this home may be taken
pub record MayTakeFrom (g : Geometry) (home : ℕ) : Type 0 where
  pub geometry : IsGeometry g
  pub range : IsFrame g home
  pub slow : tier_of g home ≢ 0

-- the numbers of a stage's piece are in range
abbrev pub MayGo : Geometry → PrepareMade → Stage → Type 0
MayGo g made (Looking home) = vpages_of g made.page ≢ []
MayGo g made (Arming found) = found ≢ []
MayGo g made (Taking home shadow) = MayTakeFrom g home
MayGo g made (PuttingBack home shadow frame) = IsFrame g (shadow_frame shadow)
MayGo g made _ = Unit {0}

-- The next stage where there is a choice.

-- after the Lock
abbrev pub lock_stage : Spent → Stage
lock_stage spent = if is_worn spent then Marking Worn else ReadingHome

-- where these virtual pages are to be armed, and the work ends
abbrev pub arm_stage : List ℕ → Stage
arm_stage [] = Marking Gone
arm_stage (v ∷ vs) = Arming (v ∷ vs)

-- after the Looks
abbrev pub looked_stage : Geometry → PrepareMade → ℕ → List ℕ → Stage
looked_stage g made home found = if is_only made.vpage found then (if is_in_last g home then Taking home 0 else ReadingShadow home) else arm_stage found

-- where the virtual pages are to be looked at, if there are any
abbrev pub look_stage : Geometry → PrepareMade → ℕ → List ℕ → Stage
look_stage g made home [] = looked_stage g made home []
look_stage g made home (v ∷ vs) = Looking home

-- after the home was read
abbrev pub home_stage : Geometry → PrepareMade → ℕ → Stage
home_stage g made word = if is_slow_home g word then look_stage g made (word - 1) (vpages_of g made.page) else Marking Gone

-- after a frame was taken
abbrev pub got_stage : ℕ → ℕ → ℕ → Stage
got_stage home shadow frame = if shadow == 0 then Clearing home frame else Unshading home shadow frame

-- What is left after the piece of a stage, by how it ends.

abbrev pub Nothing : Own → Prepared → Type 0
Nothing own outcome = ⊥

abbrev pub by_reply : (Reply → Own → Prepared → Type 0) → PieceEnd → Own → Prepared → Type 0
by_reply after (This reply) = after reply
by_reply after (Other end) = Nothing

abbrev pub by_found : (List ℕ → Own → Prepared → Type 0) → PieceEnd → Own → Prepared → Type 0
by_found after (This reply) = Nothing
by_found after (Other (This found)) = after found
by_found after (Other (Other end)) = Nothing

abbrev pub by_pool : (PoolEnd → Own → Prepared → Type 0) → PieceEnd → Own → Prepared → Type 0
by_pool after (This reply) = Nothing
by_pool after (Other (This found)) = Nothing
by_pool after (Other (Other end)) = after end

abbrev pub prepare_left : PrepareMade → Stage → Geometry → PieceEnd → Own → Prepared → Type 0
prepare_left made New g = by_reply (λ reply. Nothing)
prepare_left made Locking g = by_reply (AfterLock g made)
prepare_left made (Marking early) g = by_reply (λ reply. Follows (IsAct (Unlock made.page) g) (λ unlocked. Ends (Closed early)))
prepare_left made (Unlocking early) g = by_reply (λ reply. Ends (Closed early))
prepare_left made ReadingHome g = by_reply (AfterHome g made)
prepare_left made (Looking home) g = by_found (AfterLooks g made home)
prepare_left made (Arming found) g = by_found (λ armed. Closes g made Gone)
prepare_left made (ReadingShadow home) g = by_reply (λ reply. Takes g made home (told reply))
prepare_left made (Taking home shadow) g = by_pool (AfterTake g made home shadow)
prepare_left made (ArmingOne n) g = by_reply (λ reply. Closes g made (NoFrame n))
prepare_left made (Unshading home shadow frame) g = by_reply (λ reply. Follows (IsPool g (Back (shadow_frame shadow))) (λ back. Clears g made home frame))
prepare_left made (PuttingBack home shadow frame) g = by_pool (λ back. Clears g made home frame)
prepare_left made (Clearing home frame) g = by_reply (λ reply. Follows (IsAct (Raise made.vpage) g) (λ raised. Ends (Ready home frame)))
prepare_left made (Raising home frame) g = by_reply (λ reply. Ends (Ready home frame))

-- What is known of the views.

-- the view with one operation more at the end, these frames owned, this scan and so many raises
abbrev pub held : Op → List Owned → Scanned → ℕ → View → View
held op owned scan raises view = record view { ops = view.ops ++ op ∷ []; owned = owned; scan = scan; raises = raises }

-- the operation on a page before its dirty bit is cleared: what is known of its home and shadow word, and what was looked at
abbrev pub looked_op : ℕ → ℕ → Option ℕ → Option ℕ → List (ℕ × ℕ) → Op
looked_op page room home shadow looked = record (opened page room) { home = home; shadow = shadow; looked = looked }

-- the page is locked, and its operation may be closed
pub record IsPageOpen (made : PrepareMade) (g : Geometry) (view now : View) : Type 0 where
  pub may : MayPrepare g made g view
  pub op : Op
  pub page_is : op.page ≡ made.page
  pub unlock : MayUnlock g op
  pub scan : Scanned
  pub is : now ≡ held op view.owned scan view.raises view

-- the home was read: it is there, in a tier other than 0, and not owned
pub record IsSlowHome (made : PrepareMade) (g : Geometry) (view : View) (home : ℕ) : Type 0 where
  pub may : MayPrepare g made g view
  pub room : is_worn made.spent ≡ false
  pub range : IsFrame g home
  pub slow : tier_of g home ≢ 0
  pub unowned : IsNotOwned view home

-- the virtual pages of the page were looked at, and v alone has a word
pub record IsLone (made : PrepareMade) (g : Geometry) (looked : List (ℕ × ℕ)) : Type 0 where
  pub backing : backing_page g made.vpage ≡ Some made.page
  pub over : IsLookedOver g made.page looked
  pub mapped : IsSomeAnd (find first made.vpage looked) (λ p. p.1 ≢ 0)
  pub alone : All (λ p. (p.1 ≡ 0) ⊎ (p.0 ≡ made.vpage)) looked

-- the words looked at, before anything is known of a shadow
pub record IsLookedAt (made : PrepareMade) (g : Geometry) (view now : View) (home : ℕ) : Type 0 where
  pub home_is : IsSlowHome made g view home
  pub looked : List (ℕ × ℕ)
  pub lone : IsLone made g looked
  pub is : now ≡ held (looked_op made.page view.room.aliases (Some (home_word home)) None looked) view.owned view.scan view.raises view

-- what is known of the shadow word of the home: nothing, where the home is in the last tier; else the word
pub record IsShadowKnown (g : Geometry) (view : View) (page home shadow : ℕ) (known : Option ℕ) : Type 0 where
  pub some : shadow ≢ 0 → known ≡ Some shadow
  pub none : shadow ≡ 0 → (known ≡ Some 0) ⊎ IsInLastTier g (home_word home)
  pub news : IsNewsOfShadow g page home shadow
  pub unowned : shadow ≢ 0 → IsNotOwned view (shadow_frame shadow)

-- a frame is to be taken
pub record IsTakingFrame (made : PrepareMade) (g : Geometry) (view now : View) (home shadow : ℕ) : Type 0 where
  pub home_is : IsSlowHome made g view home
  pub looked : List (ℕ × ℕ)
  pub lone : IsLone made g looked
  pub known : Option ℕ
  pub shadow_is : IsShadowKnown g view made.page home shadow known
  pub scan : Scanned
  pub is : now ≡ held (looked_op made.page view.room.aliases (Some (home_word home)) known looked) view.owned scan view.raises view

-- it was taken, and so many words of the shadow are known
pub record IsGot (made : PrepareMade) (g : Geometry) (view : View) (home frame : ℕ) : Type 0 where
  pub home_is : IsSlowHome made g view home
  pub new : IsNewFrame g home frame view

-- there is a shadow to be given up
pub record IsUnshading (made : PrepareMade) (g : Geometry) (view now : View) (home shadow frame : ℕ) : Type 0 where
  pub got : IsGot made g view home frame
  pub looked : List (ℕ × ℕ)
  pub lone : IsLone made g looked
  pub some : shadow ≢ 0
  pub news : IsNewsOfShadow g made.page home shadow
  pub unowned : IsNotOwned view (shadow_frame shadow)
  pub scan : Scanned
  pub is : now ≡ held (looked_op made.page view.room.aliases (Some (home_word home)) (Some shadow) looked) (owning frame Raw view.owned) scan view.raises view

-- it is given up, and its frame is owned
pub record IsPuttingBack (made : PrepareMade) (g : Geometry) (view now : View) (home shadow frame : ℕ) : Type 0 where
  pub got : IsGot made g view home frame
  pub looked : List (ℕ × ℕ)
  pub lone : IsLone made g looked
  pub range : IsFrame g (shadow_frame shadow)
  pub other : frame ≢ shadow_frame shadow
  pub unowned : IsNotOwned view (shadow_frame shadow)
  pub scan : Scanned
  pub is : now ≡ held (looked_op made.page view.room.aliases (Some (home_word home)) (Some 0) looked) (owning (shadow_frame shadow) Raw (owning frame Raw view.owned)) scan view.raises view

-- there is no shadow, or none any more
pub record IsClearing (made : PrepareMade) (g : Geometry) (view now : View) (home frame : ℕ) : Type 0 where
  pub got : IsGot made g view home frame
  pub looked : List (ℕ × ℕ)
  pub lone : IsLone made g looked
  pub known : Option ℕ
  pub free : (known ≡ Some 0) ⊎ IsInLastTier g (home_word home)
  pub scan : Scanned
  pub is : now ≡ held (looked_op made.page view.room.aliases (Some (home_word home)) known looked) (owning frame Raw view.owned) scan view.raises view

-- the dirty bit is cleared
pub record IsRaising (made : PrepareMade) (g : Geometry) (view now : View) (home frame : ℕ) : Type 0 where
  pub got : IsGot made g view home frame
  pub looked : List (ℕ × ℕ)
  pub lone : IsLone made g looked
  pub known : Option ℕ
  pub free : (known ≡ Some 0) ⊎ IsInLastTier g (home_word home)
  pub scan : Scanned
  pub is : now ≡ held (cleared_at made.vpage (looked_op made.page view.room.aliases (Some (home_word home)) known looked)) (owning frame Raw view.owned) scan view.raises view

-- the page is locked, and it is not worn
pub record IsReadingHome (made : PrepareMade) (g : Geometry) (view now : View) : Type 0 where
  pub may : MayPrepare g made g view
  pub room : is_worn made.spent ≡ false
  pub is : now ≡ held (looked_op made.page view.room.aliases None None []) view.owned view.scan view.raises view

-- the home is read
pub record IsLookingOver (made : PrepareMade) (g : Geometry) (view now : View) (home : ℕ) : Type 0 where
  pub home_is : IsSlowHome made g view home
  pub is : now ≡ held (looked_op made.page view.room.aliases (Some (home_word home)) None []) view.owned view.scan view.raises view

-- these virtual pages have words, and not v alone
pub record IsArming (made : PrepareMade) (g : Geometry) (view now : View) (found : List ℕ) : Type 0 where
  pub opened : IsPageOpen made g view now
  pub of : All (λ v. backing_page g v ≡ Some made.page) found
  pub mapped : All (λ v. IsLookedMapped opened.op.looked opened.op.taken v) found

-- v alone has a word, and no frame could be taken
pub record IsArmingOne (made : PrepareMade) (g : Geometry) (view now : View) : Type 0 where
  pub opened : IsPageOpen made g view now
  pub of : backing_page g made.vpage ≡ Some made.page
  pub mapped : IsLookedMapped opened.op.looked opened.op.taken made.vpage

-- it has begun
pub record IsLocking (made : PrepareMade) (g : Geometry) (view now : View) : Type 0 where
  pub may : MayPrepare g made g view
  pub begun : now ≡ view

-- what is known at a stage
abbrev pub PrepareKnown : PrepareMade → Stage → Geometry → View → View → Type 0
PrepareKnown made New g view now = ⊥
PrepareKnown made Locking g view now = IsLocking made g view now
PrepareKnown made (Marking early) g view now = IsPageOpen made g view now
PrepareKnown made (Unlocking early) g view now = IsPageOpen made g view now
PrepareKnown made ReadingHome g view now = IsReadingHome made g view now
PrepareKnown made (Looking home) g view now = IsLookingOver made g view now home
PrepareKnown made (Arming found) g view now = IsArming made g view now found
PrepareKnown made (ReadingShadow home) g view now = IsLookedAt made g view now home
PrepareKnown made (Taking home shadow) g view now = IsTakingFrame made g view now home shadow
PrepareKnown made (ArmingOne n) g view now = IsArmingOne made g view now
PrepareKnown made (Unshading home shadow frame) g view now = IsUnshading made g view now home shadow frame
PrepareKnown made (PuttingBack home shadow frame) g view now = IsPuttingBack made g view now home shadow frame
PrepareKnown made (Clearing home frame) g view now = IsClearing made g view now home frame
PrepareKnown made (Raising home frame) g view now = IsRaising made g view now home frame
