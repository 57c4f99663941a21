-- Sums and ranges: what the machine keeps of its words, whatever its actors know.
use Rattle.std.specs.Prelude.{◌≡◌, ℕ, ◌≤◌, Some, sum_by}
use Rattle.std.specs.List.{range_with_len}
use Rattle.nm_base.specs.Geometry.{Geometry}
use Rattle.nm_base.specs.FreeWords.{HasOwnBits}
use Rattle.nm_base.specs.HomeWord.{IsHomeWord}
use Rattle.nm_base.specs.Ranges.{IsWord}
use Rattle.nm_base.specs.ShadowWord.{IsShadowWord}
use Rattle.nm_base.specs.TableWord.{IsTableInRange}
use Rattle.nm_view.specs.Views.{Op}
use Rattle.nm_words.specs.declared.names.Where.{Where}
use Rattle.nm_words.specs.declared.names.Where.TheVariants as words
use Rattle.nm_core.specs.Named.{AreTakenInRange}
use Rattle.nm_core.specs.State.{actor_count}
use Rattle.nm_world.specs.Worlds.{World, pte_at, stamp_at, home_at, shadow_at, op_at}

-- the bumps and the raises that all actors together have made
abbrev pub bumps_in : Geometry → World → ℕ
bumps_in g m = sum_by (λ a. (m.view a).bumps) (range_with_len 0 (actor_count g))

abbrev pub raises_in : Geometry → World → ℕ
raises_in g m = sum_by (λ a. (m.view a).raises) (range_with_len 0 (actor_count g))

-- the number of bumps is their sum, and no stamp exceeds the sum of raises; table words, taken words, home words and shadow
-- words name frames in range; a free word has bits of its tier's frames alone; every word has 64 bits
pub record HasBounds (g : Geometry) (m : World) : Type 0 where
  pub req : m.word words.Req ≡ bumps_in g m
  pub stamps : (v : ℕ) → stamp_at m v ≤ raises_in g m
  pub table : (v : ℕ) → IsTableInRange g (pte_at m v)
  pub taken : (a b : ℕ) (o : Op) → op_at m a b ≡ Some o → AreTakenInRange g o
  pub homes : (b : ℕ) → IsHomeWord g (home_at m b)
  pub shadows : (k : ℕ) → IsShadowWord g (shadow_at m k)
  pub free : (t k : ℕ) → HasOwnBits g t k (m.word (words.Free t k))
  pub words : (c : Where) → IsWord (m.word c)
