-- The words of a machine by name, and the places of the free frames and of the memory in their lists.
use Rattle.std.specs.Prelude.{ℕ, ◌+◌, ◌*◌, ◌<◌, take, sum_by}
use Rattle.nm_base.specs.Geometry.{Geometry}
use Rattle.nm_base.specs.Ranges.{IsVPage, IsPage, IsFrame, IsTier, IsIndex}
use Rattle.nm_base.specs.FreeWords.{free_words, words_for}
use Rattle.nm_words.specs.declared.names.Where.{Where}
use Rattle.nm_words.specs.declared.names.Where.TheVariants.{Req, Pte, Stamp, Home, Shadow, Lock, Mark, Ack, Turn, Free, Mem}

-- the words of the free frames of the tiers before tier t
abbrev pub first_free : Geometry → ℕ → ℕ
first_free g t = sum_by words_for (take t g.tiers)

-- the words of the free frames of all tiers
abbrev pub free_word_count : Geometry → ℕ
free_word_count g = sum_by words_for g.tiers

-- the place of word k of the free frames of tier t: tier by tier
abbrev pub free_place : Geometry → ℕ → ℕ → ℕ
free_place g t k = first_free g t + k

-- the place of word i of frame f: frame by frame
abbrev pub mem_place : Geometry → ℕ → ℕ → ℕ
mem_place g f i = f * g.words + i

-- a machine of this geometry has the word
abbrev pub IsPlace : Geometry → Where → Type 0
IsPlace g Req = Unit {0}
IsPlace g (Pte v) = IsVPage g v
IsPlace g (Stamp v) = IsVPage g v
IsPlace g (Home b) = IsPage g b
IsPlace g (Shadow m) = IsFrame g m
IsPlace g (Lock b) = IsPage g b
IsPlace g (Mark b) = IsPage g b
IsPlace g (Ack p) = p < g.cpus
IsPlace g (Turn t) = IsTier g t
IsPlace g (Free t k) = IsTier g t × (k < free_words g t)
IsPlace g (Mem f i) = IsFrame g f × IsIndex g i
