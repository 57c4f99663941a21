-- Lines that may follow one another: what may stand last before a line, and what the lines before it told of its ranges.
use Rattle.std.specs.Prelude.{◌≡◌, ℕ, ◌+◌, ◌<◌, ◌≤◌, ◌^◌, ◌⊎◌, List, [], ◌∷◌, ◌++◌, length, Option, None, slice_index_or}
use Rattle.nm_base.specs.declared.geometry.VPage.{VPage}
use Rattle.nm_base.specs.Geometry.{IsPageSize}
use Rattle.nm_tiers.specs.Tiers.{tier_count}
use Rattle.nm_script.specs.declared.limits.TheConstants.{MOST_FRAMES, MOST_TURNS}
use Rattle.nm_script.specs.declared.script.Line.{Line}
use Rattle.nm_script.specs.declared.script.Line.TheVariants.{Load, Store, Add, Await}
use Rattle.nm_script.specs.declared.item.Item.{Item}
use Rattle.nm_script.specs.declared.item.Item.TheVariants.{Version, Page, Tiers, Node, Cpus, Retry, Serial, Shuffle, Plan, Go, Map, Cpu, Access}
use Rattle.nm_script.specs.declared.item.Place.{Place}
use Rattle.nm_script.specs.declared.item.Place.TheVariants as places
use Rattle.nm_script.specs.Script.{IsAccessTo, IsNode, IsPlanItem}
use Rattle.nm_script.specs.Told.{Told, with_item}
use Rattle.nm_script.specs.Items.{item_text}

-- what stood last is one of these
abbrev pub IsOneOf : List Place → Place → Type 0
IsOneOf [] p = ⊥
IsOneOf (q ∷ qs) p = (p ≡ q) ⊎ IsOneOf qs p

-- the virtual page of an access
abbrev pub page_of_line : Line → ℕ
page_of_line (Load v w) = v
page_of_line (Store v w x) = v
page_of_line (Add v w x) = v
page_of_line (Await v w x n) = v

-- a line that accesses a page which was mapped
abbrev pub IsReach : ℕ → List (Option VPage) → Line → Type 0
IsReach words vs l = IsAccessTo words vs l × (page_of_line l ≤ 4095)

-- what may stand last before a line
abbrev pub before_of : Item → List Place
before_of (Version n) = places.Begin ∷ []
before_of (Page w) = places.Version ∷ []
before_of (Tiers f t) = places.Version ∷ places.Page ∷ []
before_of (Node n) = places.Version ∷ places.Page ∷ places.Tier ∷ []
before_of (Cpus p) = places.Tier ∷ []
before_of (Retry r) = places.Cpus ∷ []
before_of (Serial t) = places.Cpus ∷ places.Retry ∷ []
before_of (Shuffle n t) = places.Cpus ∷ places.Retry ∷ []
before_of (Plan t) = places.Cpus ∷ places.Retry ∷ []
before_of (Go g) = places.Plan ∷ []
before_of (Map v p) = places.Cpus ∷ places.Retry ∷ places.Order ∷ places.Plan ∷ places.Map ∷ []
before_of (Cpu p) = places.Map ∷ places.Program ∷ []
before_of (Access l) = places.Program ∷ []

-- the ranges of a line's numbers, after what was told
abbrev pub IsItemInRange : Told → Item → Type 0
IsItemInRange s (Version n) = (n ≡ 1) ⊎ (n ≡ 2)
IsItemInRange s (Page w) = IsPageSize w
IsItemInRange s (Tiers f t) = (s.version ≡ 1) × (1 ≤ f) × (f ≤ 4095) × (1 ≤ t) × (t ≤ 4095) × (f + t ≤ MOST_FRAMES)
IsItemInRange s (Node n) = (s.version ≡ 2) × (length s.nodes < 16) × IsNode n × (s.frames + n.frames ≤ MOST_FRAMES) × (tier_count (s.nodes ++ n ∷ []) ≤ 4)
IsItemInRange s (Cpus p) = (1 ≤ p) × (p ≤ 16) × (2 ≤ length s.tiers)
IsItemInRange s (Retry r) = (s.version ≡ 2) × (r ≤ 1000)
IsItemInRange s (Serial t) = t ≤ MOST_TURNS
IsItemInRange s (Shuffle n t) = (n < 2 ^ 64) × (t ≤ MOST_TURNS)
IsItemInRange s (Plan t) = t ≤ MOST_TURNS
IsItemInRange s (Go g) = IsPlanItem s.cpus g
IsItemInRange s (Map v p) = (v ≤ 4095) × (p.page ≤ 4095) × (slice_index_or s.vpages v None ≡ None) × (p.page + 1 + s.cpus + 9 ≤ s.frames)
IsItemInRange s (Cpu p) = (p ≡ length s.programs) × (p < s.cpus)
IsItemInRange s (Access l) = IsReach s.words s.vpages l

-- a line that may stand after what was told
abbrev pub MayFollow : Told → Item → Type 0
MayFollow s i = IsOneOf (before_of i) s.place × IsItemInRange s i

-- the lines are the spellings of items, each of which may follow what the ones before it told
abbrev pub AreLines : Told → List (List ℕ) → Told → Type 0
AreLines s [] t = s ≡ t
AreLines s (l ∷ ls) t = (i : Item) × (l ≡ item_text s.cpus i) × MayFollow s i × AreLines (with_item s i) ls t
