-- The word that maps a virtual page to its page's new home.
use Rattle.std.specs.Prelude.{ℕ, ◌||◌, Bool, false}
use Rattle.nm_base.specs.PageWord.{is_writable, is_dirty, is_accessed, is_saved, word_of}
use Rattle.nm_base.specs.declared.page_word.PageWord.TheVariants.{Present}
use Rattle.nm_transfer.specs.declared.transfer.Rights.{Rights}
use Rattle.nm_transfer.specs.declared.transfer.Rights.TheVariants.{Kept, Plain}

-- by the word that was taken: the new frame and the hint, with the rights and marks of that word; or writable where it was
-- writable or had the right saved, dirty as it was, and nothing else
abbrev pub mapped_word : Rights → ℕ → Bool → ℕ → ℕ
mapped_word Kept frame hint word = word_of (Present frame hint (is_writable word) (is_dirty word) (is_accessed word) (is_saved word))
mapped_word Plain frame hint word = word_of (Present frame hint (is_writable word || is_saved word) (is_dirty word) false false)
