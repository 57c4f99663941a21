-- What every table word is, whatever the actors do: it names a frame in range, and no bit outside the layout is set.
use Rattle.std.specs.Prelude.{◌≡◌, ℕ}
use Rattle.std.specs.Int.{bit_at}
use Rattle.nm_base.specs.Geometry.{Geometry}
use Rattle.nm_base.specs.PageWord.{IsLayoutBit, frame_of}
use Rattle.nm_base.specs.Ranges.{IsFrame}

-- no bit outside the layout is set
abbrev pub HasLayout : ℕ → Type 0
HasLayout word = (k : ℕ) → bit_at word k ≡ 1 → IsLayoutBit k

-- the frame is in range, also of a word that maps none, and no bit outside the layout is set
pub record IsTableInRange (g : Geometry) (word : ℕ) : Type 0 where
  pub frame : IsFrame g (frame_of word)
  pub layout : HasLayout word
