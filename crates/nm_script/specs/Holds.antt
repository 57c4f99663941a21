-- Mirrors the reader: what holds of what it keeps between two lines.
use Rattle.std.specs.Prelude.{◌≡◌, ℕ, ◌+◌, ◌<◌, ◌≤◌, ◌^◌, ◌⊎◌, List, [], ◌∷◌, length, sum, Option, None, IfSome}
use Rattle.std.specs.List.{AllByRecursion}
use Rattle.nm_base.specs.declared.geometry.VPage.{VPage}
use Rattle.nm_base.specs.Geometry.{IsPageSize, pages_of}
use Rattle.nm_tiers.specs.declared.nodes.Node.{Node}
use Rattle.nm_tiers.specs.Tiers.{frames_of, tiers_of, tier_count}
use Rattle.nm_script.specs.declared.limits.TheConstants.{MOST_FRAMES, MOST_TURNS}
use Rattle.nm_script.specs.declared.item.Item.{Item}
use Rattle.nm_script.specs.declared.item.Item.TheVariants as items
use Rattle.nm_script.specs.declared.item.Place.{Place}
use Rattle.nm_script.specs.declared.item.Place.TheVariants as places
use Rattle.nm_script.specs.declared.item.Order.{Order}
use Rattle.nm_script.specs.declared.item.Order.TheVariants as orders
use Rattle.nm_script.specs.Script.{IsNode, IsPlanItem, IsTrimmed}
use Rattle.nm_script.specs.Following.{IsReach}
use Rattle.nm_script.specs.Told.{Told, nothing}

-- two tiers, of 1 to 4,095 frames each
pub record IsPair (tiers : List ℕ) : Type 0 where
  pub fast : ℕ
  pub slow : ℕ
  pub are : tiers ≡ fast ∷ slow ∷ []
  pub some : (1 ≤ fast) × (fast ≤ 4095) × (1 ≤ slow) × (slow ≤ 4095)

-- the nodes so far, and what they form
pub record HasNodes (tiers : List ℕ) (frames : ℕ) (nodes : List Node) : Type 0 where
  pub few : length nodes ≤ 16
  pub each : AllByRecursion IsNode nodes
  pub frames_are : frames ≡ frames_of nodes
  pub tiers_are : tiers ≡ tiers_of nodes
  pub count : tier_count nodes ≤ 4

-- the frames and the tiers so far, by version
pub record IsMachine (version : ℕ) (tiers : List ℕ) (frames : ℕ) (nodes : List Node) (retry : Option ℕ) : Type 0 where
  pub few : frames ≤ MOST_FRAMES
  pub sum : frames ≡ sum tiers
  pub parts : ((version ≡ 1) × (nodes ≡ []) × (retry ≡ None) × ((tiers ≡ []) ⊎ IsPair tiers))
      ⊎ ((version ≡ 2) × HasNodes tiers frames nodes × IfSome retry (λ r. r ≤ 1000))

abbrev pub IsOrder : Order → Type 0
IsOrder (orders.Serial t) = t ≤ MOST_TURNS
IsOrder (orders.Shuffle n t) = (n < 2 ^ 64) × (t ≤ MOST_TURNS)
IsOrder (orders.Plan t) = t ≤ MOST_TURNS

-- virtual pages that leave frames enough
pub record AreMaps (frames cpus : ℕ) (vs : List (Option VPage)) : Type 0 where
  pub trimmed : IsTrimmed vs
  pub few : length vs ≤ 4096
  pub room : (pages_of vs ≡ 0) ⊎ (pages_of vs + cpus + 9 ≤ frames)

-- before the processors nothing is told of virtual pages, a plan and programs
abbrev pub IsEarly : Told → Type 0
IsEarly s = (s.plan ≡ []) × (s.vpages ≡ []) × (s.programs ≡ [])

-- after them there are processors and tiers
abbrev pub IsLate : Told → Type 0
IsLate s = (1 ≤ s.cpus) × (2 ≤ length s.tiers)

-- what each place says
abbrev pub Stands : Place → Told → Type 0
Stands places.Begin s = ⊥
Stands places.Version s = IsEarly s × (s.nodes ≡ []) × (s.tiers ≡ [])
Stands places.Page s = IsEarly s × (s.nodes ≡ []) × (s.tiers ≡ [])
Stands places.Tier s = IsEarly s
Stands places.Cpus s = IsLate s × (s.programs ≡ [])
Stands places.Retry s = IsLate s × (s.programs ≡ [])
Stands places.Order s = IsLate s × (s.programs ≡ [])
Stands places.Plan s = IsLate s × (s.programs ≡ [])
Stands places.Map s = IsLate s × (1 ≤ pages_of s.vpages) × (s.programs ≡ [])
Stands places.Program s = IsLate s × (1 ≤ pages_of s.vpages) × (1 ≤ length s.programs)

-- after the first line
pub record IsOpen (s : Told) : Type 0 where
  pub machine : IsMachine s.version s.tiers s.frames s.nodes s.retry
  pub words : IsPageSize s.words
  pub few : s.cpus ≤ 16
  pub order : IsOrder s.order
  pub plan : AllByRecursion (IsPlanItem s.cpus) s.plan
  pub maps : AreMaps s.frames s.cpus s.vpages
  pub lines : AllByRecursion (λ program. AllByRecursion (IsReach s.words s.vpages) program) s.programs
  pub programs : length s.programs ≤ s.cpus
  pub stands : Stands s.place s

-- nothing, or what some lines have told
abbrev pub IsToldSoFar : Told → Type 0
IsToldSoFar s = (s ≡ nothing) ⊎ IsOpen s

-- what is added to fits the code's numbers and lists
abbrev pub ItemFits : Told → Item → Type 0
ItemFits s (items.Tiers f t) = f + t < 2 ^ 32
ItemFits s (items.Node n) = (s.frames + n.frames ≤ MOST_FRAMES) × (s.frames ≡ frames_of s.nodes)
ItemFits s (items.Access l) = 0 < length s.programs
ItemFits s i = Unit {0}
