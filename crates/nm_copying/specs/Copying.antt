-- A copy of all words of a page into an owned frame: for each index, in order, the word is loaded and then stored.
use Rattle.std.specs.Prelude.{◌≡◌, ◌≢◌, ℕ, zero, suc, ◌+◌, ◌-◌, ◌<◌, Option, Some, None, IsSomeAnd}
use Rattle.std.specs.List.{range_with_len}
use Rattle.nm_base.specs.Geometry.{Geometry, IsGeometry}
use Rattle.nm_base.specs.Ranges.{IsPage, IsFrame, IsWord}
use Rattle.nm_action.specs.declared.action.Action.{Action}
use Rattle.nm_action.specs.declared.action.Action.TheVariants.{CopyLoad, CopyStore}
use Rattle.nm_action.specs.declared.action.Reply.{Reply}
use Rattle.nm_action.specs.declared.action.Reply.TheVariants.{Done, Word, Busy, Lost}
use Rattle.nm_action.specs.Own.{Own}
use Rattle.nm_view.specs.declared.view.Fill.{Fill}
use Rattle.nm_view.specs.declared.view.Fill.TheVariants.{Raw, Copied}
use Rattle.nm_view.specs.Lists.{edit}
use Rattle.nm_view.specs.Views.{Op, View}
use Rattle.nm_view.specs.Operations.{page_of, owned_frame, op_on, fill_of, IsFlushEnded}
use Rattle.nm_permit.specs.Permitted.{IsCopyingPhase}
use Rattle.nm_event.specs.After.{filled}
use Rattle.nm_part.specs.Patterns.{Ends, Follows, Each}
use Rattle.nm_compose.specs.Acts.{IsAct}
use Rattle.nm_compose.specs.Stages.{Stages}
use Rattle.nm_copying.specs.declared.copies.Stage.{Stage}
use Rattle.nm_copying.specs.declared.copies.Stage.TheVariants.{New, Loading, Storing}
use Rattle.nm_copying.specs.declared.copies.CopiesMade.{CopiesMade}

-- the word that a reply carries (0 where it carries none, of which nothing is claimed)
abbrev pub told : Reply → ℕ
told Done = 0
told (Word word) = word
told (Busy word) = word
told (Lost word) = word

-- The pattern, last step first.

-- one word is loaded and then stored
abbrev pub CopyOf : CopiesMade → Geometry → ℕ → Unit {0} → (Unit {0} → Own → Unit {0} → Type 0) → Own → Unit {0} → Type 0
CopyOf made g index kept after = Follows (IsAct (CopyLoad made.page index) g) (λ reply. Follows (IsAct (CopyStore (Some made.page) made.frame index (told reply)) g) (λ stored. after kept))

-- the words from this index on are copied
abbrev pub CopiesFrom : CopiesMade → Geometry → ℕ → Own → Unit {0} → Type 0
CopiesFrom made g index = Each (CopyOf made g) (range_with_len index (made.words - index)) tt (λ kept. Ends tt)

-- all words are copied
abbrev pub IsCopying : CopiesMade → Geometry → Own → Unit {0} → Type 0
IsCopying made g = CopiesFrom made g 0

-- The views.

-- an operation with so many words copied, and this one loaded
abbrev pub copied_to : ℕ → Option ℕ → Op → Op
copied_to count last o = record o { copied = count; last = last }

-- the fill of a frame to which so many words of a page are copied
abbrev pub copied_fill : ℕ → ℕ → Fill
copied_fill page zero = Raw
copied_fill page (suc n) = Copied page (suc n)

-- the view with so many words copied, and this one loaded
abbrev pub copying : CopiesMade → ℕ → Option ℕ → View → View
copying made count last view = record view {
  ops = edit page_of made.page (copied_to count last) view.ops;
  owned = edit owned_frame made.frame (filled (copied_fill made.page count)) view.owned;
}

-- an operation whose page may be copied, of which no word is copied
pub record MayCopyPage (g : Geometry) (o : Op) : Type 0 where
  pub home : IsSomeAnd o.home (λ h. h ≢ 0)
  pub none : o.copied ≡ 0
  pub last : o.last ≡ None
  pub flushed : IsFlushEnded g o
  pub phase : IsCopyingPhase g o o.phase

-- it may begin where the page may be copied, and the frame is owned and nothing is known of its words
pub record MayCopies (made : CopiesMade) (g : Geometry) (view : View) : Type 0 where
  pub geometry : IsGeometry g
  pub words : made.words ≡ g.words
  pub page : IsPage g made.page
  pub frame : IsFrame g made.frame
  pub fill : fill_of view made.frame ≡ Some Raw
  pub op : IsSomeAnd (op_on view made.page) (MayCopyPage g)

-- it leaves the operation with all words copied and the frame as a copy, and all else of the view as it was
pub record IsCopied (made : CopiesMade) (view left : View) : Type 0 where
  pub is : left ≡ copying made made.words None view

-- The stages.

-- the action of a stage
abbrev pub copies_action : CopiesMade → Stage → Action
copies_action made New = CopyLoad made.page 0
copies_action made (Loading index) = CopyLoad made.page index
copies_action made (Storing index word) = CopyStore (Some made.page) made.frame index word

-- what is left after the action of a stage, by its reply
abbrev pub copies_left : CopiesMade → Stage → Geometry → Reply → Own → Unit {0} → Type 0
copies_left made New g reply = Ends tt
copies_left made (Loading index) g reply = Follows (IsAct (CopyStore (Some made.page) made.frame index (told reply)) g) (λ stored. CopiesFrom made g (index + 1))
copies_left made (Storing index word) g reply = CopiesFrom made g (index + 1)

-- so many words are copied
pub record IsAtLoad (made : CopiesMade) (index : ℕ) (g : Geometry) (first now : View) : Type 0 where
  pub may : MayCopies made g first
  pub within : index < made.words
  pub is : now ≡ copying made index None first

-- so many words are copied, and the next is loaded
pub record IsAtStore (made : CopiesMade) (index word : ℕ) (g : Geometry) (first now : View) : Type 0 where
  pub may : MayCopies made g first
  pub within : index < made.words
  pub bits : IsWord word
  pub is : now ≡ copying made index (Some word) first

-- what is known at a stage
abbrev pub CopiesKnown : CopiesMade → Stage → Geometry → View → View → Type 0
CopiesKnown made New g first now = ⊥
CopiesKnown made (Loading index) g first now = IsAtLoad made index g first now
CopiesKnown made (Storing index word) g first now = IsAtStore made index word g first now

abbrev pub copies_stages : Stages CopiesMade Stage Action Reply (Unit {0})
copies_stages = record { piece = copies_action; left = copies_left; known = CopiesKnown }
