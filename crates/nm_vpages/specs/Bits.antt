-- A set of numbers as the bits of words: number v is bit v % 64 of word v / 64.
use Rattle.std.specs.Prelude.{◌≡◌, ℕ, zero, suc, ◌+◌, ◌*◌, ◌/◌, ◌%◌, ◌<◌, ◌≤◌, ◌==◌, if◌then◌else◌, Bool, List, [], ◌∷◌, length, slice_index}
use Rattle.std.specs.Int.{bit_at}

-- the bit of a number is set
abbrev pub has_bit : List ℕ → ℕ → Bool
has_bit words v = bit_at (slice_index words (v / 64)) (v % 64) == 1

-- of so many numbers from this one on, those whose bit is set, ascending
abbrev pub members_from : List ℕ → ℕ → ℕ → List ℕ
members_from words first zero = []
members_from words first (suc more) = if has_bit words first then first ∷ members_from words (first + 1) more else members_from words (first + 1) more

-- the numbers whose bit is set, ascending
unfoldable pub members : List ℕ → List ℕ
members words = members_from words 0 (64 * length words)

-- a bit of a word of 64 bits is the least, from one on, that is set
pub record IsNextSet (word start bit : ℕ) : Type 0 where
  pub above : start ≤ bit
  pub within : bit < 64
  pub set : bit_at word bit ≡ 1
  pub least : (j : ℕ) → start ≤ j → j < bit → bit_at word j ≡ 0

-- no bit of a word of 64 bits, from one on, is set
pub record HasNoneSet (word start : ℕ) : Type 0 where
  pub none : (j : ℕ) → start ≤ j → j < 64 → bit_at word j ≡ 0
