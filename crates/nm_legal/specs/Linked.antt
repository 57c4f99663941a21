-- The link between a machine and a flat memory, and what a step does to it.
use Rattle.std.specs.Prelude.{◌≡◌, ℕ, Option, Some, None}
use Rattle.nm_base.specs.Geometry.{Geometry}
use Rattle.nm_base.specs.Ranges.{IsIndex}
use Rattle.nm_flat.specs.declared.access.Access.{Access}
use Rattle.nm_flat.specs.Memory.{Memory, IsPlaced, IsTrueOf, with_access}
use Rattle.nm_world.specs.Worlds.{World, home_at, mem_at}
use Rattle.nm_world.specs.Notions.{page_value}

-- a memory is that of the pages of a world: word i of a page is word i of its home, and 0 where it has none
abbrev pub IsLinked : Geometry → World → Memory → Type 0
IsLinked g m memory = (b i : ℕ) → IsIndex g i → page_value (home_at m) (mem_at m) b i ≡ memory b i

-- an access follows a memory: it lies in a mapped page, it tells what the memory has, and the world after it is linked to
-- the memory after it
pub record IsFollowed (g : Geometry) (after : World) (memory : Memory) (x : Access) : Type 0 where
  pub placed : IsPlaced g x
  pub tells : IsTrueOf g memory x
  pub linked : IsLinked g after (with_access g memory x)

-- a step follows a memory: its access does, if it is one, and else the world after it is linked to the same memory
abbrev pub FollowsMemory : Geometry → World → Memory → Option Access → Type 0
FollowsMemory g after memory None = IsLinked g after memory
FollowsMemory g after memory (Some x) = IsFollowed g after memory x
