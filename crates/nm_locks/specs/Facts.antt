-- What the lock law takes from the other groups.
use Rattle.std.specs.Prelude.{◌≡◌, ◌≢◌, ℕ, Some}
use Rattle.nm_base.specs.Geometry.{Geometry}
use Rattle.nm_base.specs.HomeWord.{home_word}
use Rattle.nm_base.specs.PageWord.{IsPageWord}
use Rattle.nm_view.specs.declared.view.Fill.{Fill}
use Rattle.nm_view.specs.Operations.{fill_of}
use Rattle.nm_world.specs.Worlds.{World, pte_at, home_at, shadow_at}

-- each table word is a page word; a frame is the home of one page alone; a frame that is owned is no home; a frame that is no
-- home has no shadow
pub record LockFacts (g : Geometry) (m : World) : Type 0 where
  pub page_words : (v : ℕ) → IsPageWord (pte_at m v)
  pub one_page : (b c f : ℕ) → home_at m b ≡ home_word f → home_at m c ≡ home_word f → b ≡ c
  pub owned : (a b f : ℕ) (fill : Fill) → fill_of (m.view a) f ≡ Some fill → home_at m b ≢ home_word f
  pub unshaded : (f : ℕ) → ((b : ℕ) → home_at m b ≢ home_word f) → shadow_at m f ≡ 0
