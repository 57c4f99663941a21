-- The geometry of a machine, as contracts see it: tiers of frames, words of a page, processors, virtual pages.
use Rattle.std.specs.Prelude.{◌≡◌, ℕ, ◌+◌, ◌^◌, ◌<◌, ◌≤◌, ◌-◌, max, nat_lt, if◌then◌else◌, IsTrue, IsSomeAnd, List, [], ◌∷◌, length, take, sum, All, Option, Some, None, option_map, slice_index_or}
use Rattle.nm_base.specs.declared.geometry.VPage.{VPage}
use Rattle.nm_base.specs.declared.geometry.Field.{Field}
use Rattle.nm_base.specs.declared.geometry.Field.TheVariants.{Words, Tiers, Cpus, VPages}

-- words of a page; frames of each tier, the fastest first; processors; the virtual pages by number
pub record Geometry : Type 0 where
  pub words : ℕ
  pub tiers : List ℕ
  pub cpus : ℕ
  pub vpages : List (Option VPage)

-- the backing number of a mapped virtual page plus 1, or 0
abbrev pub page_end : Option VPage → ℕ
page_end None = 0
page_end (Some v) = v.page + 1

-- the greatest mapped backing number plus 1, or 0 where nothing is mapped
abbrev pub pages_of : List (Option VPage) → ℕ
pages_of [] = 0
pages_of (v ∷ vs) = max (page_end v) (pages_of vs)

-- how many backing pages there are
abbrev pub page_count : Geometry → ℕ
page_count g = pages_of g.vpages

-- how many frames there are in all tiers
abbrev pub frame_count : Geometry → ℕ
frame_count g = sum g.tiers

-- the frames of the tiers before tier t: they are numbered tier by tier
abbrev pub first_frame : Geometry → ℕ → ℕ
first_frame g t = sum (take t g.tiers)

-- frame f lies in tier t
pub record IsInTier (g : Geometry) (f t : ℕ) : Type 0 where
  pub exists : t < length g.tiers
  pub from : first_frame g t ≤ f
  pub below : f < first_frame g (t + 1)

-- the tier in which a frame lies
abbrev pub tier_among : List ℕ → ℕ → ℕ
tier_among [] f = 0
tier_among (n ∷ ns) f = if nat_lt f n then 0 else tier_among ns (f - n) + 1

abbrev pub tier_of : Geometry → ℕ → ℕ
tier_of g f = tier_among g.tiers f

-- what virtual page v is mapped to, if anything
abbrev pub vpage_at : Geometry → ℕ → Option VPage
vpage_at g v = slice_index_or g.vpages v None

-- the backing page to which virtual page v of a list is mapped, if it is
abbrev pub backing_among : List (Option VPage) → ℕ → Option ℕ
backing_among vs v = option_map (λ p. p.page) (slice_index_or vs v None)

-- the backing page of virtual page v, if it is mapped
abbrev pub backing_page : Geometry → ℕ → Option ℕ
backing_page g v = backing_among g.vpages v

-- v is mapped, and may be written
abbrev pub IsWritable : Geometry → ℕ → Type 0
IsWritable g v = IsSomeAnd (vpage_at g v) (λ p. IsTrue p.writable)

-- v is the least virtual page of a backing page that is at least `start`
pub record IsNextVPage (vs : List (Option VPage)) (page start v : ℕ) : Type 0 where
  pub is : backing_among vs v ≡ Some page
  pub from : start ≤ v
  pub least : (u : ℕ) → start ≤ u → backing_among vs u ≡ Some page → v ≤ u

-- a power of two, 1 to 512
abbrev pub IsPageSize : ℕ → Type 0
IsPageSize words = (k : ℕ) × (k ≤ 9) × (words ≡ 2 ^ k)

-- 2 to 4 tiers of 1 to 4,095 frames, and at most 4,096 frames in all
abbrev pub AreTiers : List ℕ → Type 0
AreTiers tiers = (2 ≤ length tiers) × (length tiers ≤ 4) × All (λ n. (1 ≤ n) × (n ≤ 4095)) tiers × (sum tiers ≤ 4096)

-- at most 4,096 virtual pages, of which one at least is mapped, and none to a number above 4,095
abbrev pub AreVPages : List (Option VPage) → Type 0
AreVPages vpages = (length vpages ≤ 4096) × (1 ≤ pages_of vpages) × (pages_of vpages ≤ 4096)

-- the limits of each field
abbrev pub IsInRange : Geometry → Field → Type 0
IsInRange g Words = IsPageSize g.words
IsInRange g Tiers = AreTiers g.tiers
IsInRange g Cpus = (1 ≤ g.cpus) × (g.cpus ≤ 16)
IsInRange g VPages = AreVPages g.vpages

-- a field is the first, in the order of the record, that is outside its limits
abbrev pub IsFirstOutside : Geometry → Field → Type 0
IsFirstOutside g Words = ¬ IsInRange g Words
IsFirstOutside g Tiers = IsInRange g Words × ¬ IsInRange g Tiers
IsFirstOutside g Cpus = IsInRange g Words × IsInRange g Tiers × ¬ IsInRange g Cpus
IsFirstOutside g VPages = IsInRange g Words × IsInRange g Tiers × IsInRange g Cpus × ¬ IsInRange g VPages

-- every field is within its limits
abbrev pub HasRanges : Geometry → Type 0
HasRanges g = IsInRange g Words × IsInRange g Tiers × IsInRange g Cpus × IsInRange g VPages

-- every field is within its limits, and n backing pages leave too few frames for the work of the processors,
-- eight open transactions and one demotion
pub record IsCrowded (g : Geometry) (n : ℕ) : Type 0 where
  pub ranges : HasRanges g
  pub count : n ≡ page_count g
  pub few : frame_count g < n + g.cpus + 9

-- a geometry that a machine can have
pub record IsGeometry (g : Geometry) : Type 0 where
  pub ranges : HasRanges g
  pub room : page_count g + g.cpus + 9 ≤ frame_count g

-- the geometry with these fields
abbrev pub made : ℕ → List ℕ → ℕ → List (Option VPage) → Geometry
made words tiers cpus vpages = record { words = words; tiers = tiers; cpus = cpus; vpages = vpages }
