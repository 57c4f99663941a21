-- Page words: the 64-bit words of the page table.
use Rattle.std.specs.Prelude.{◌≡◌, ℕ, ◌+◌, ◌-◌, ◌*◌, ◌/◌, ◌%◌, ◌≤◌, ◌<◌, ◌^◌, ◌==◌, ◌⊎◌, Bool, true, false, if◌then◌else◌, bit_or, bit_xor}
use Rattle.std.specs.Int.{bit_at}
use Rattle.nm_base.specs.declared.page_word.PageWord.{PageWord}
use Rattle.nm_base.specs.declared.page_word.PageWord.TheVariants.{Absent, Present}

-- the bits of a page word: 0 present, 1 hint, 2 writable, 3 dirty, 4 accessed, 5 the saved right to write
abbrev pub is_present : ℕ → Bool
is_present word = bit_at word 0 == 1

abbrev pub has_hint : ℕ → Bool
has_hint word = bit_at word 1 == 1

abbrev pub is_writable : ℕ → Bool
is_writable word = bit_at word 2 == 1

abbrev pub is_dirty : ℕ → Bool
is_dirty word = bit_at word 3 == 1

abbrev pub is_accessed : ℕ → Bool
is_accessed word = bit_at word 4 == 1

abbrev pub is_saved : ℕ → Bool
is_saved word = bit_at word 5 == 1

-- the frame number: bits 12 to 43 alone
abbrev pub frame_of : ℕ → ℕ
frame_of word = (word / 4096) % 2 ^ 32

-- the flags as masks
abbrev pub present_mask : ℕ
present_mask = 1

abbrev pub hint_mask : ℕ
hint_mask = 2

abbrev pub writable_mask : ℕ
writable_mask = 4

abbrev pub dirty_mask : ℕ
dirty_mask = 8

abbrev pub accessed_mask : ℕ
accessed_mask = 16

abbrev pub saved_mask : ℕ
saved_mask = 32

-- every bit of a word but those of a mask
abbrev pub all_but : ℕ → ℕ
all_but mask = 2 ^ 64 - 1 - mask

-- what a walk sets: accessed, and dirty for a write
abbrev pub walk_mask : Bool → ℕ
walk_mask true = accessed_mask + dirty_mask
walk_mask false = accessed_mask

-- a table word after a walk went through it
abbrev pub walked_word : ℕ → Bool → ℕ
walked_word word write = bit_or word (walk_mask write)

-- what a grant turns: the right to write and the saved one
abbrev pub grant_mask : ℕ
grant_mask = writable_mask + saved_mask

-- a table word whose saved right to write is made the right to write
abbrev pub granted_word : ℕ → ℕ
granted_word word = bit_xor word grant_mask

-- a bit that stands for something: the six flags, and 32 bits of the frame number
abbrev pub IsLayoutBit : ℕ → Type 0
IsLayoutBit k = (k ≤ 5) ⊎ ((12 ≤ k) × (k ≤ 43))

-- a word that maps a frame: bit 0 is set, and no bit outside the layout is
pub record IsPresentWord (word : ℕ) : Type 0 where
  pub present : bit_at word 0 ≡ 1
  pub layout : (k : ℕ) → bit_at word k ≡ 1 → IsLayoutBit k

-- a page word: 0, which maps nothing, or a word that maps a frame
abbrev pub IsPageWord : ℕ → Type 0
IsPageWord word = (word ≡ 0) ⊎ IsPresentWord word

-- what a page word says, read by its bits
abbrev pub fields_of : ℕ → PageWord
fields_of word = if word == 0 then Absent else Present (frame_of word) (has_hint word) (is_writable word) (is_dirty word) (is_accessed word) (is_saved word)

-- 1 where a flag is set
abbrev pub flag : Bool → ℕ
flag true = 1
flag false = 0

-- the word that says this
abbrev pub word_of : PageWord → ℕ
word_of Absent = 0
word_of (Present frame hint writable dirty accessed saved) = 1 + 2 * flag hint + 4 * flag writable + 8 * flag dirty + 16 * flag accessed + 32 * flag saved + 4096 * frame

-- its frame number has 32 bits
abbrev pub IsNarrow : PageWord → Type 0
IsNarrow Absent = Unit {0}
IsNarrow (Present frame hint writable dirty accessed saved) = frame < 2 ^ 32
