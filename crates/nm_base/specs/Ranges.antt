-- Numbers in range.
use Rattle.std.specs.Prelude.{ℕ, ◌^◌, ◌<◌, length}
use Rattle.nm_base.specs.Geometry.{Geometry, page_count, frame_count}

abbrev pub IsVPage : Geometry → ℕ → Type 0
IsVPage g v = v < length g.vpages

abbrev pub IsPage : Geometry → ℕ → Type 0
IsPage g page = page < page_count g

abbrev pub IsFrame : Geometry → ℕ → Type 0
IsFrame g frame = frame < frame_count g

abbrev pub IsTier : Geometry → ℕ → Type 0
IsTier g tier = tier < length g.tiers

-- a word of a page
abbrev pub IsIndex : Geometry → ℕ → Type 0
IsIndex g index = index < g.words

-- the value of a word
abbrev pub IsWord : ℕ → Type 0
IsWord value = value < 2 ^ 64
