-- What the cache law takes from the other groups.
use Rattle.std.specs.Prelude.{◌≡◌, ◌≢◌, ℕ, Some, false}
use Rattle.nm_base.specs.Geometry.{Geometry}
use Rattle.nm_view.specs.Operations.{names_one}
use Rattle.nm_view.specs.Views.{Op}
use Rattle.nm_world.specs.Worlds.{World, pte_at, home_at, shadow_at, op_at}
use Rattle.nm_world.specs.Sights.{sight_of}
use Rattle.nm_world.specs.Notions.{IsOut}
use Rattle.nm_world.specs.FrameLaw.{MapsToHome}
use Rattle.nm_world.specs.CopyLaw.{OwnsCopy}
use Rattle.nm_world.specs.LockLaw.{LockLaw}

-- each table word that is not 0 maps its virtual page to the home of its page
abbrev pub AreMappings : Geometry → World → Type 0
AreMappings g m = (v : ℕ) → pte_at m v ≢ 0 → MapsToHome g (home_at m) (shadow_at m) v (pte_at m v)

-- where an operation on b names no virtual page and its actor has a frame that is copied of b, every table word of b is 0
abbrev pub AreCopiesOut : Geometry → World → Type 0
AreCopiesOut g m = (a b : ℕ) (o : Op) → op_at m a b ≡ Some o → names_one o.phase o.cleared o.moved ≡ false → OwnsCopy (sight_of g m).fill a b → IsOut g (pte_at m) b

-- the lock law; table words are mappings; copies are of pages that are out of the table
pub record HasCacheFacts (g : Geometry) (m : World) : Type 0 where
  pub locks : LockLaw g m
  pub mappings : AreMappings g m
  pub copies : AreCopiesOut g m
