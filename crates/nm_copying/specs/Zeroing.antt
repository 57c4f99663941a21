-- All words of an owned frame are set to 0, in order.
use Rattle.std.specs.Prelude.{◌≡◌, ℕ, zero, suc, ◌+◌, ◌-◌, ◌<◌, Some, None}
use Rattle.std.specs.List.{range_with_len}
use Rattle.nm_base.specs.Geometry.{Geometry, IsGeometry}
use Rattle.nm_base.specs.Ranges.{IsFrame}
use Rattle.nm_action.specs.declared.action.Action.{Action}
use Rattle.nm_action.specs.declared.action.Action.TheVariants.{CopyStore}
use Rattle.nm_action.specs.declared.action.Reply.{Reply}
use Rattle.nm_action.specs.Own.{Own}
use Rattle.nm_view.specs.declared.view.Fill.{Fill}
use Rattle.nm_view.specs.declared.view.Fill.TheVariants.{Raw, Zeroed}
use Rattle.nm_view.specs.Lists.{edit}
use Rattle.nm_view.specs.Views.{View}
use Rattle.nm_view.specs.Operations.{owned_frame, fill_of}
use Rattle.nm_event.specs.After.{filled}
use Rattle.nm_part.specs.Patterns.{Ends, Follows, Each}
use Rattle.nm_compose.specs.Acts.{IsAct}
use Rattle.nm_compose.specs.Stages.{Stages}
use Rattle.nm_copying.specs.declared.zeroes.ZeroStage.{ZeroStage}
use Rattle.nm_copying.specs.declared.zeroes.ZeroStage.TheVariants.{Fresh, Zeroing}
use Rattle.nm_copying.specs.declared.zeroes.ZeroesMade.{ZeroesMade}

-- The pattern.

-- one word is set to 0
abbrev pub ZeroOf : ZeroesMade → Geometry → ℕ → Unit {0} → (Unit {0} → Own → Unit {0} → Type 0) → Own → Unit {0} → Type 0
ZeroOf made g index kept after = Follows (IsAct (CopyStore None made.frame index 0) g) (λ stored. after kept)

-- the words from this index on are set to 0
abbrev pub ZeroesFrom : ZeroesMade → Geometry → ℕ → Own → Unit {0} → Type 0
ZeroesFrom made g index = Each (ZeroOf made g) (range_with_len index (made.words - index)) tt (λ kept. Ends tt)

-- all words are set to 0
abbrev pub IsZeroing : ZeroesMade → Geometry → Own → Unit {0} → Type 0
IsZeroing made g = ZeroesFrom made g 0

-- The views.

-- the fill of a frame whose first words are 0, so many
abbrev pub zeroed_fill : ℕ → Fill
zeroed_fill zero = Raw
zeroed_fill (suc n) = Zeroed (suc n)

-- the view with so many words set to 0
abbrev pub zeroing : ZeroesMade → ℕ → View → View
zeroing made count view = record view { owned = edit owned_frame made.frame (filled (zeroed_fill count)) view.owned }

-- it may begin where the frame is owned and nothing is known of its words
pub record MayZeroes (made : ZeroesMade) (g : Geometry) (view : View) : Type 0 where
  pub geometry : IsGeometry g
  pub words : made.words ≡ g.words
  pub frame : IsFrame g made.frame
  pub fill : fill_of view made.frame ≡ Some Raw

-- it leaves the frame with all words 0, and all else of the view as it was
pub record IsZeroed (made : ZeroesMade) (view left : View) : Type 0 where
  pub is : left ≡ zeroing made made.words view

-- The stages.

-- the action of a stage
abbrev pub zeroes_action : ZeroesMade → ZeroStage → Action
zeroes_action made Fresh = CopyStore None made.frame 0 0
zeroes_action made (Zeroing index) = CopyStore None made.frame index 0

-- what is left after the action of a stage
abbrev pub zeroes_left : ZeroesMade → ZeroStage → Geometry → Reply → Own → Unit {0} → Type 0
zeroes_left made Fresh g reply = Ends tt
zeroes_left made (Zeroing index) g reply = ZeroesFrom made g (index + 1)

-- so many words are set to 0
pub record IsAtZero (made : ZeroesMade) (index : ℕ) (g : Geometry) (first now : View) : Type 0 where
  pub may : MayZeroes made g first
  pub within : index < made.words
  pub is : now ≡ zeroing made index first

-- what is known at a stage
abbrev pub ZeroesKnown : ZeroesMade → ZeroStage → Geometry → View → View → Type 0
ZeroesKnown made Fresh g first now = ⊥
ZeroesKnown made (Zeroing index) g first now = IsAtZero made index g first now

abbrev pub zeroes_stages : Stages ZeroesMade ZeroStage Action Reply (Unit {0})
zeroes_stages = record { piece = zeroes_action; left = zeroes_left; known = ZeroesKnown }
