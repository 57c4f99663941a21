-- How far the fault on a virtual page that is not mapped has come.
use Rattle.std.specs.Prelude.{◌≡◌, ℕ, ◌==◌, not, Bool, false, List, [], ◌∷◌, ◌++◌, Option, Some, None}
use Rattle.nm_base.specs.Geometry.{Geometry}
use Rattle.nm_base.specs.Ranges.{IsFrame}
use Rattle.nm_base.specs.HomeWord.{home_word}
use Rattle.nm_action.specs.declared.action.Action.TheVariants.{Unlock, Look, Read, Map, SetHome}
use Rattle.nm_action.specs.declared.action.Cell.TheVariants.{Home, Shadow}
use Rattle.nm_action.specs.Own.{Own}
use Rattle.nm_view.specs.declared.view.Fill.{Fill}
use Rattle.nm_view.specs.declared.view.Fill.TheVariants.{Raw, Zeroed}
use Rattle.nm_view.specs.declared.view.Owned.{Owned}
use Rattle.nm_view.specs.declared.view.Scanned.{Scanned}
use Rattle.nm_view.specs.Lists.{find}
use Rattle.nm_view.specs.Operations.{owned_frame}
use Rattle.nm_view.specs.Views.{Op, View}
use Rattle.nm_part.specs.Patterns.{Ends, Follows}
use Rattle.nm_compose.specs.declared.or.Or.TheVariants.{This, Other}
use Rattle.nm_compose.specs.Acts.{IsAct}
use Rattle.nm_reclaim.specs.Reclaims.{word_in}
use Rattle.nm_reclaim.specs.Swept.{IsForgotten}
use Rattle.nm_shadow_fault.specs.declared.fault.FaultEnd.{FaultEnd}
use Rattle.nm_shadow_fault.specs.declared.fault.FaultEnd.TheVariants.{Demand, Alias, Ready}
use Rattle.nm_shadow_fault.specs.declared.fault.FaultMade.{FaultMade}
use Rattle.nm_shadow_fault.specs.Granting.{fault_made, MayFault, fault_op, with_op, IsAtLock, IsAtLook, IsFaultLooked}
use Rattle.nm_missing_fault.specs.declared.missing.MissingStage.{MissingStage}
use Rattle.nm_missing_fault.specs.declared.missing.MissingStage.TheVariants.{New, Locking, Looking, Leaving, ReadingHome, ReadingShadow, Searching, Zeroing, SettingHome, Mapping, Unlocking}
use Rattle.nm_missing_fault.specs.MissingFault.{missing_word, MapsVPage, SetsFirstHome, ZeroesFrame, MissingAfterHome, MissingAfterLook}
use Rattle.nm_missing_fault.specs.Pieces.{MissingPieceMade, MissingPieceEnd, missing_told, missing_found}

-- the frame to which a stage maps is there
abbrev pub HasMappedFrame : Geometry → MissingStage → Type 0
HasMappedFrame g (Mapping frame shadowed end) = IsFrame g frame
HasMappedFrame g _ = Unit {0}

-- the piece of a stage
abbrev pub missing_piece_of : Geometry → FaultMade → MissingStage → MissingPieceMade
missing_piece_of g made New = This made.page
missing_piece_of g made Locking = This made.page
missing_piece_of g made Looking = Other (This (Look made.vpage))
missing_piece_of g made Leaving = Other (This (Unlock made.page))
missing_piece_of g made ReadingHome = Other (This (Read made.page (Home made.page)))
missing_piece_of g made (ReadingShadow home) = Other (This (Read made.page (Shadow home)))
missing_piece_of g made Searching = Other (Other (This (record { 0 = g; 1 = record { page = made.page } })))
missing_piece_of g made (Zeroing frame) = Other (Other (Other (record { frame = frame; words = g.words })))
missing_piece_of g made (SettingHome frame) = Other (This (SetHome made.page frame))
missing_piece_of g made (Mapping frame shadowed end) = Other (This (Map made.vpage (missing_word g made.vpage frame shadowed)))
missing_piece_of g made (Unlocking end) = Other (This (Unlock made.page))

-- what is left after the piece of a stage, by how that ends
abbrev pub missing_left : FaultMade → MissingStage → Geometry → MissingPieceEnd → Own → FaultEnd → Type 0
missing_left made New g end = Ends Ready
missing_left made Locking g end = Follows (IsAct (Look made.vpage) g) (λ reply. MissingAfterLook g made (word_in reply))
missing_left made Looking g end = MissingAfterLook g made (missing_told end)
missing_left made Leaving g end = Ends Ready
missing_left made ReadingHome g end = MissingAfterHome g made (missing_told end)
missing_left made (ReadingShadow home) g end = MapsVPage g made home (not (missing_told end == 0)) Alias
missing_left made Searching g end = ZeroesFrame g made (missing_found end)
missing_left made (Zeroing frame) g end = SetsFirstHome g made frame
missing_left made (SettingHome frame) g end = MapsVPage g made frame false Demand
missing_left made (Mapping frame shadowed outcome) g end = Follows (IsAct (Unlock made.page) g) (λ unlocked. Ends outcome)
missing_left made (Unlocking outcome) g end = Ends outcome

-- What is known at a stage.

-- v was looked at as 0, and so much is known of the home and of its shadow word
pub record IsMissing (made : FaultMade) (home shadow : Option ℕ) (g : Geometry) (first now : View) : Type 0 where
  pub may : MayFault (fault_made g made) g first
  pub is : now ≡ with_op first (fault_op made first 0 home shadow) first.owned

-- the home is known
pub record IsAtShadowOf (made : FaultMade) (home : ℕ) (g : Geometry) (first now : View) : Type 0 where
  pub frame : IsFrame g home
  pub missing : IsMissing made (Some (home_word home)) None g first now

-- the view with this operation, these frames, and this scan
abbrev pub with_scan : View → Op → List Owned → Scanned → View
with_scan first o owned scan = record first { ops = o ∷ []; owned = owned; scan = scan }

-- there is no home, and a frame with this fill is owned beside the frames that were owned at first
pub record IsWithFrame (made : FaultMade) (frame : ℕ) (fill : Fill) (g : Geometry) (first now : View) : Type 0 where
  pub may : MayFault (fault_made g made) g first
  pub before : List Owned
  pub owned : IsForgotten None first.owned before
  pub exists : IsFrame g frame
  pub fresh : find owned_frame frame before ≡ None
  pub is : now ≡ with_scan first (fault_op made first 0 (Some 0) None) (before ++ record { frame = frame; fill = fill } ∷ []) now.scan

-- the operation of the fault, once its home is known: v was looked at, or mapped, with this word
abbrev pub homed_op : FaultMade → View → ℕ → ℕ → Option ℕ → Bool → Op
homed_op made first look frame shadow moved = record (fault_op made first look (Some (home_word frame)) shadow) { moved = moved }

-- the home is this frame, of which is known whether it has a shadow; v is to be mapped to it
pub record IsAtMap (made : FaultMade) (frame : ℕ) (shadowed : Bool) (g : Geometry) (first now : View) : Type 0 where
  pub may : MayFault (fault_made g made) g first
  pub frame_is : IsFrame g frame
  pub shadow : ℕ
  pub moved : Bool
  pub known : shadowed ≡ not (shadow == 0)
  pub owned : IsForgotten None first.owned now.owned
  pub is : now ≡ with_scan first (homed_op made first 0 frame (Some shadow) moved) now.owned now.scan

-- v is mapped
pub record IsFaultMapped (made : FaultMade) (g : Geometry) (first now : View) : Type 0 where
  pub may : MayFault (fault_made g made) g first
  pub look : ℕ
  pub frame : ℕ
  pub shadow : Option ℕ
  pub moved : Bool
  pub owned : IsForgotten None first.owned now.owned
  pub is : now ≡ with_scan first (homed_op made first look frame shadow moved) now.owned now.scan

abbrev pub KnownInMissing : FaultMade → MissingStage → Geometry → View → View → Type 0
KnownInMissing made New g first now = ⊥
KnownInMissing made Locking g first now = IsAtLock (fault_made g made) g first now
KnownInMissing made Looking g first now = IsAtLook (fault_made g made) g first now
KnownInMissing made Leaving g first now = IsFaultLooked (fault_made g made) None None g first now
KnownInMissing made ReadingHome g first now = IsMissing made None None g first now
KnownInMissing made (ReadingShadow home) g first now = IsAtShadowOf made home g first now
KnownInMissing made Searching g first now = IsMissing made (Some 0) None g first now
KnownInMissing made (Zeroing frame) g first now = IsWithFrame made frame Raw g first now
KnownInMissing made (SettingHome frame) g first now = IsWithFrame made frame (Zeroed g.words) g first now
KnownInMissing made (Mapping frame shadowed end) g first now = IsAtMap made frame shadowed g first now
KnownInMissing made (Unlocking end) g first now = IsFaultMapped made g first now
