-- Shadows are true.
use Rattle.std.specs.Prelude.{◌≡◌, ◌≢◌, ℕ, ◌<◌}
use Rattle.nm_base.specs.Geometry.{Geometry, tier_of}
use Rattle.nm_base.specs.HomeWord.{home_word}
use Rattle.nm_base.specs.Ranges.{IsIndex}
use Rattle.nm_base.specs.ShadowWord.{NamesShadow}
use Rattle.nm_world.specs.Sights.{Sight}
use Rattle.nm_world.specs.Notions.{IsClean}

-- a frame with a shadow is the master of a page: its word names the page and the shadow; it is the home of the page; the
-- shadow lies in a slower tier and equals it; no cache has a dirty entry of the page
pub record IsMaster (g : Geometry) (m : Sight) (k : ℕ) : Type 0 where
  pub page : ℕ
  pub frame : ℕ
  pub names : NamesShadow g (m.shadow k) page frame
  pub home : m.home page ≡ home_word k
  pub slower : tier_of g k < tier_of g frame
  pub equal : (i : ℕ) → IsIndex g i → m.mem k i ≡ m.mem frame i
  pub clean : IsClean g m.entry page

-- each frame whose shadow word is not 0 is a master
pub record ShadowLaw (g : Geometry) (m : Sight) : Type 0 where
  pub masters : (k : ℕ) → m.shadow k ≢ 0 → IsMaster g m k
