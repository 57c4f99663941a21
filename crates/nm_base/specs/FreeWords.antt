-- The words of a tier's free frames, 64 frames each: a bit for each frame, set where the frame is free.
use Rattle.std.specs.Prelude.{◌≡◌, ℕ, ◌+◌, ◌-◌, ◌*◌, ◌/◌, ◌%◌, ◌<◌, ◌==◌, if◌then◌else◌, slice_index, Option, Some, None}
use Rattle.std.specs.Int.{bit_at, w64, trailing_zeros}
use Rattle.nm_base.specs.Geometry.{Geometry, first_frame, tier_of}

-- the words that stand for so many frames
abbrev pub words_for : ℕ → ℕ
words_for frames = (frames + 63) / 64

-- the words of a tier
abbrev pub free_words : Geometry → ℕ → ℕ
free_words g t = words_for (slice_index g.tiers t)

-- among the words of its tier the one in which a frame has its bit, and the bit
abbrev pub free_index : Geometry → ℕ → ℕ
free_index g f = (f - first_frame g (tier_of g f)) / 64

abbrev pub free_bit : Geometry → ℕ → ℕ
free_bit g f = (f - first_frame g (tier_of g f)) % 64

-- word k of tier t has bits of frames of this tier alone
abbrev pub HasOwnBits : Geometry → ℕ → ℕ → ℕ → Type 0
HasOwnBits g t k word = (bit : ℕ) → bit_at word bit ≡ 1 → 64 * k + bit < slice_index g.tiers t

-- the frame for which bit 0 of word k of tier t stands
abbrev pub free_base : Geometry → ℕ → ℕ → ℕ
free_base g t k = first_frame g t + 64 * k

-- the number of the least set bit of a word that is not 0
unfoldable pub least_bit : ℕ → ℕ
least_bit word = trailing_zeros w64 word

-- the least frame whose bit is set in a word of which bit 0 stands for the frame `base`
abbrev pub least_frame : ℕ → ℕ → Option ℕ
least_frame base word = if word == 0 then None else Some (base + least_bit word)
