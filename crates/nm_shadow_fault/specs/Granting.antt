-- How far the fault on a page that has a shadow has come.
use Rattle.std.specs.Prelude.{◌≡◌, ◌≢◌, ℕ, true, List, [], ◌∷◌, Option, Some, None}
use Rattle.nm_base.specs.Geometry.{Geometry, IsGeometry, backing_page}
use Rattle.nm_base.specs.Ranges.{IsPage, IsFrame, IsVPage}
use Rattle.nm_base.specs.HomeWord.{home_word}
use Rattle.nm_base.specs.PageWord.{granted_word}
use Rattle.nm_base.specs.ShadowWord.{shadow_frame}
use Rattle.nm_action.specs.declared.action.Action.{Action}
use Rattle.nm_action.specs.declared.action.Action.TheVariants.{Lock, Unlock, Look, Read, SetShadow, Grant}
use Rattle.nm_action.specs.declared.action.Cell.TheVariants.{Home, Shadow}
use Rattle.nm_action.specs.declared.action.Reply.{Reply}
use Rattle.nm_action.specs.Own.{Own}
use Rattle.nm_view.specs.declared.view.Owned.{Owned}
use Rattle.nm_view.specs.Lists.{find}
use Rattle.nm_view.specs.Opening.{opened}
use Rattle.nm_view.specs.Operations.{owned_frame}
use Rattle.nm_view.specs.Views.{Op, View}
use Rattle.nm_part.specs.Patterns.{Ends, Follows}
use Rattle.nm_compose.specs.declared.act.Act.{Act}
use Rattle.nm_compose.specs.declared.or.Or.{Or}
use Rattle.nm_compose.specs.declared.or.Or.TheVariants.{This, Other}
use Rattle.nm_compose.specs.Acts.{MayAct, IsAct, IsActed}
use Rattle.nm_compose.specs.Choices.{or_made, IsNewOr, MayBeginOr, IsOr, LeavesOr}
use Rattle.nm_compose.specs.Stages.{Stages}
use Rattle.nm_pool.specs.declared.job.PoolEnd.{PoolEnd}
use Rattle.nm_pool.specs.declared.job.PoolJob.TheVariants.{Back}
use Rattle.nm_pool.specs.declared.job.PoolMade.{PoolMade}
use Rattle.nm_pool.specs.declared.task.PoolTask.{PoolTask}
use Rattle.nm_pool.specs.Pool.{IsPool}
use Rattle.nm_pool.specs.Given.{pool_made}
use Rattle.nm_pool.specs.Given as given
use Rattle.nm_pool.specs.Stages.{made_of, IsNewPool}
use Rattle.nm_reclaim.specs.Reclaims.{word_in}
use Rattle.nm_reclaim.specs.Swept.{IsForgotten, IsSwept}
use Rattle.nm_reclaim.specs.Sweeping.{HasShadow}
use Rattle.nm_shadow_fault.specs.declared.fault.FaultEnd.{FaultEnd}
use Rattle.nm_shadow_fault.specs.declared.fault.FaultEnd.TheVariants.{Ready, Granted}
use Rattle.nm_shadow_fault.specs.declared.fault.FaultMade.{FaultMade}
use Rattle.nm_shadow_fault.specs.declared.locks.Locks.{Locks}
use Rattle.nm_shadow_fault.specs.declared.shadow.ShadowStage.{ShadowStage}
use Rattle.nm_shadow_fault.specs.declared.shadow.ShadowStage.TheVariants.{New, Locking, Looking, Leaving, ReadingHome, ReadingShadow, Discarding, Granting, Unlocking, PuttingBack}
use Rattle.nm_shadow_fault.specs.Locking.{LocksPage, MayLocks, LeavesLocked}
use Rattle.nm_shadow_fault.specs.ShadowFault.{needs_grant, GrantPutsBack, Grants, GrantAfterShadow, GrantAfterHome, GrantAfterLook}

-- Pieces: the page is locked, a single action, or a frame is put back.

abbrev pub FaultPieceMade : Type 0
FaultPieceMade = Or ℕ (Or Action PoolMade)

abbrev pub FaultPieceEnd : Type 0
FaultPieceEnd = Or (Unit {0}) (Or Reply PoolEnd)

abbrev pub FaultPiece : Type 0
FaultPiece = Or Locks (Or Act PoolTask)

abbrev pub fault_piece_made : FaultPiece → FaultPieceMade
fault_piece_made piece = or_made (λ (p : Locks). p.page) (λ (rest : Or Act PoolTask). or_made (λ (a : Act). a.action) made_of rest) piece

abbrev pub IsNewFaultPiece : FaultPiece → Type 0
IsNewFaultPiece piece = IsNewOr (λ (p : Locks). Unit {0}) (λ (rest : Or Act PoolTask). IsNewOr (λ (a : Act). Unit {0}) IsNewPool rest) piece

abbrev pub MayFaultPiece : FaultPieceMade → Geometry → View → Type 0
MayFaultPiece = MayBeginOr MayLocks (MayBeginOr (λ action g view. MayAct g view action) given.MayBegin)

abbrev pub IsFaultPiece : FaultPieceMade → Geometry → Own → FaultPieceEnd → Type 0
IsFaultPiece = IsOr (λ page g. LocksPage page) (IsOr IsAct (λ (made : PoolMade) g own end. IsPool g made.job own end))

abbrev pub LeavesFaultPiece : FaultPieceMade → Geometry → View → FaultPieceEnd → View → Type 0
LeavesFaultPiece = LeavesOr (λ page g view end left. LeavesLocked page view left) (LeavesOr (λ action g view reply left. IsActed g view action reply left) (λ (made : PoolMade) g view end left. given.Leaves g made.job view end left))

-- When a fault may begin, and what it leaves.

abbrev pub FaultsMade : Type 0
FaultsMade = Geometry × FaultMade

abbrev pub fault_made : Geometry → FaultMade → FaultsMade
fault_made g made = (g, made)

-- it was made for this geometry, the virtual page is mapped to the page, and the view holds no turn and has no operation
pub record MayFault (made : FaultsMade) (g : Geometry) (view : View) : Type 0 where
  pub same : made.0 ≡ g
  pub geometry : IsGeometry g
  pub vpage : IsVPage g made.1.vpage
  pub mapped : backing_page g made.1.vpage ≡ Some made.1.page
  pub page : IsPage g made.1.page
  pub ops : view.ops ≡ []
  pub turn : view.turn ≡ None

-- it leaves all of the view as it was, but what is known of owned frames, and the scan
abbrev pub IsFaulted : View → View → Type 0
IsFaulted view left = IsSwept None view left

-- Stages.

-- the frame that a stage puts back is there
abbrev pub HasFaultFrame : Geometry → ShadowStage → Type 0
HasFaultFrame g (PuttingBack shadow) = IsFrame g shadow
HasFaultFrame g _ = Unit {0}

abbrev pub fault_action : FaultMade → ShadowStage → Action
fault_action made New = Lock made.page
fault_action made Locking = Lock made.page
fault_action made Looking = Look made.vpage
fault_action made Leaving = Unlock made.page
fault_action made ReadingHome = Read made.page (Home made.page)
fault_action made (ReadingShadow master) = Read made.page (Shadow master)
fault_action made (Discarding master shadow) = SetShadow made.page master None
fault_action made (Granting shadow) = Grant made.vpage
fault_action made (Unlocking shadow) = Unlock made.page
fault_action made (PuttingBack shadow) = Unlock made.page

abbrev pub fault_piece_of : Geometry → FaultMade → ShadowStage → FaultPieceMade
fault_piece_of g made New = This made.page
fault_piece_of g made Locking = This made.page
fault_piece_of g made (PuttingBack shadow) = Other (Other (pool_made g (Back shadow)))
fault_piece_of g made stage = Other (This (fault_action made stage))

-- the word that the reply carries with which a piece ended
abbrev pub fault_told : FaultPieceEnd → ℕ
fault_told (This end) = 0
fault_told (Other (This reply)) = word_in reply
fault_told (Other (Other end)) = 0

-- what is left after the piece of a stage, by how that ends
abbrev pub fault_left_by : FaultMade → ShadowStage → Geometry → FaultPieceEnd → Own → FaultEnd → Type 0
fault_left_by made New g end = Ends Ready
fault_left_by made Locking g end = Follows (IsAct (Look made.vpage) g) (λ reply. GrantAfterLook g made (word_in reply))
fault_left_by made Looking g end = GrantAfterLook g made (fault_told end)
fault_left_by made Leaving g end = Ends Ready
fault_left_by made ReadingHome g end = GrantAfterHome g made (fault_told end)
fault_left_by made (ReadingShadow master) g end = GrantAfterShadow g made master (fault_told end)
fault_left_by made (Discarding master shadow) g end = Grants g made (Some shadow)
fault_left_by made (Granting shadow) g end = Follows (IsAct (Unlock made.page) g) (λ unlocked. GrantPutsBack g shadow)
fault_left_by made (Unlocking shadow) g end = GrantPutsBack g shadow
fault_left_by made (PuttingBack shadow) g end = Ends (Granted (Some shadow))

abbrev pub fault_left : FaultsMade → ShadowStage → Geometry → FaultPieceEnd → Own → FaultEnd → Type 0
fault_left made stage g end = fault_left_by made.1 stage g end

-- What is known at a stage.

-- the operation of the fault: v was looked at with this word, and so much is known of the home and of its shadow word
abbrev pub fault_op : FaultMade → View → ℕ → Option ℕ → Option ℕ → Op
fault_op made first look home shadow = record (opened made.page first.room.aliases) { home = home; shadow = shadow; looked = (made.vpage, look) ∷ [] }

-- the view with this operation, and these frames
abbrev pub with_op : View → Op → List Owned → View
with_op first o owned = record first { ops = o ∷ []; owned = owned }

pub record IsAtLock (made : FaultsMade) (g : Geometry) (first now : View) : Type 0 where
  pub may : MayFault made g first
  pub is : now ≡ first

pub record IsAtLook (made : FaultsMade) (g : Geometry) (first now : View) : Type 0 where
  pub may : MayFault made g first
  pub is : now ≡ with_op first (opened made.1.page first.room.aliases) first.owned

-- v was looked at
pub record IsFaultLooked (made : FaultsMade) (home shadow : Option ℕ) (g : Geometry) (first now : View) : Type 0 where
  pub may : MayFault made g first
  pub look : ℕ
  pub is : now ≡ with_op first (fault_op made.1 first look home shadow) first.owned

-- v was looked at with a word that needs the fault
pub record IsGrantNeeded (made : FaultsMade) (home shadow : Option ℕ) (g : Geometry) (first now : View) : Type 0 where
  pub may : MayFault made g first
  pub look : ℕ
  pub needs : needs_grant look ≡ true
  pub is : now ≡ with_op first (fault_op made.1 first look home shadow) first.owned

-- the home is known
pub record IsAtShadow (made : FaultsMade) (master : ℕ) (g : Geometry) (first now : View) : Type 0 where
  pub frame : IsFrame g master
  pub needed : IsGrantNeeded made (Some (home_word master)) None g first now

-- so is its shadow
pub record IsAtDiscard (made : FaultsMade) (master shadow : ℕ) (g : Geometry) (first now : View) : Type 0 where
  pub frame : IsFrame g master
  pub word : ℕ
  pub some : word ≢ 0
  pub names : shadow_frame word ≡ shadow
  pub exists : IsFrame g shadow
  pub fresh : find owned_frame shadow first.owned ≡ None
  pub needed : IsGrantNeeded made (Some (home_word master)) (Some word) g first now

-- the frames with the shadow that was taken away, if there was one
abbrev pub HoldsShadow : Option ℕ → Geometry → List Owned → List Owned → Type 0
HoldsShadow None g first now = IsForgotten None first now
HoldsShadow (Some shadow) g first now = HasShadow None shadow g first now

-- the home has no shadow now
pub record IsAtGrant (made : FaultsMade) (shadow : Option ℕ) (g : Geometry) (first now : View) : Type 0 where
  pub may : MayFault made g first
  pub look : ℕ
  pub home : Option ℕ
  pub needs : needs_grant look ≡ true
  pub owned : HoldsShadow shadow g first.owned now.owned
  pub is : now ≡ with_op first (fault_op made.1 first look home (Some 0)) now.owned

-- the right was granted
pub record IsAtUnlock (made : FaultsMade) (shadow : Option ℕ) (g : Geometry) (first now : View) : Type 0 where
  pub may : MayFault made g first
  pub look : ℕ
  pub home : Option ℕ
  pub owned : HoldsShadow shadow g first.owned now.owned
  pub is : now ≡ with_op first (fault_op made.1 first (granted_word look) home (Some 0)) now.owned

-- the page is unlocked, and the shadow is owned
pub record IsAtBack (made : FaultsMade) (shadow : ℕ) (g : Geometry) (first now : View) : Type 0 where
  pub may : MayFault made g first
  pub owned : HasShadow None shadow g first.owned now.owned
  pub is : now ≡ record first { owned = now.owned }

abbrev pub KnownInFault : FaultsMade → ShadowStage → Geometry → View → View → Type 0
KnownInFault made New g first now = ⊥
KnownInFault made Locking g first now = IsAtLock made g first now
KnownInFault made Looking g first now = IsAtLook made g first now
KnownInFault made Leaving g first now = IsFaultLooked made None None g first now
KnownInFault made ReadingHome g first now = IsGrantNeeded made None None g first now
KnownInFault made (ReadingShadow master) g first now = IsAtShadow made master g first now
KnownInFault made (Discarding master shadow) g first now = IsAtDiscard made master shadow g first now
KnownInFault made (Granting shadow) g first now = IsAtGrant made shadow g first now
KnownInFault made (Unlocking shadow) g first now = IsAtUnlock made shadow g first now
KnownInFault made (PuttingBack shadow) g first now = IsAtBack made shadow g first now

abbrev pub shadow_stages : Stages FaultsMade ShadowStage FaultPieceMade FaultPieceEnd FaultEnd
shadow_stages = record { piece = λ made stage. fault_piece_of made.0 made.1 stage; left = fault_left; known = KnownInFault }
