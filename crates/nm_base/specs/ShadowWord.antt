-- Shadow words: 0, or the backing page of which a frame is the master, and the frame of its shadow.
use Rattle.std.specs.Prelude.{◌≡◌, ℕ, ◌+◌, ◌-◌, ◌*◌, ◌/◌, ◌%◌, ◌^◌, ◌==◌, ◌⊎◌, if◌then◌else◌, Option, Some, None}
use Rattle.nm_base.specs.Geometry.{Geometry}
use Rattle.nm_base.specs.Ranges.{IsPage, IsFrame}

-- the shadow word of a master of page b: 0 for none, or b and its shadow s
abbrev pub shadow_word : ℕ → Option ℕ → ℕ
shadow_word b None = 0
shadow_word b (Some s) = (b + 1) * 2 ^ 32 + s + 1

-- the page that a shadow word names
abbrev pub shadow_page : ℕ → ℕ
shadow_page word = word / 2 ^ 32 - 1

-- the frame of the shadow that a shadow word names
abbrev pub shadow_frame : ℕ → ℕ
shadow_frame word = word % 2 ^ 32 - 1

-- the page and the shadow that a shadow word names, if it names any
abbrev pub named_shadow : ℕ → Option (ℕ × ℕ)
named_shadow word = if word == 0 then None else Some (shadow_page word, shadow_frame word)

-- a word names a page and its shadow
pub record NamesShadow (g : Geometry) (word page frame : ℕ) : Type 0 where
  pub exists : IsPage g page
  pub range : IsFrame g frame
  pub is : word ≡ shadow_word page (Some frame)

-- a shadow word: 0, or it names some page and its shadow
abbrev pub IsShadowWord : Geometry → ℕ → Type 0
IsShadowWord g word = (word ≡ 0) ⊎ ((page : ℕ) × (frame : ℕ) × NamesShadow g word page frame)

-- a shadow word of a page: 0, or it names this page and its shadow
abbrev pub IsShadowWordOf : Geometry → ℕ → ℕ → Type 0
IsShadowWordOf g page word = (word ≡ 0) ⊎ ((frame : ℕ) × NamesShadow g word page frame)
