-- The hotness of a page.
use Rattle.std.specs.Prelude.{ℕ, IsTrue}
use Rattle.nm_base.specs.PageWord.{is_present, is_accessed}

-- the word maps its page, and a walk went through it
abbrev pub IsHot : ℕ → Type 0
IsHot word = IsTrue (is_present word) × IsTrue (is_accessed word)
