-- What the calls of a translation cache say, over its meaning: a map from virtual pages to entries, as a look-up.
use Rattle.std.specs.Prelude.{◌≡◌, ℕ, ◌<◌, ◌≤◌, Bool, Option, None, IsSome}
use Rattle.nm_xlat.specs.declared.translations.Entry.{Entry}

-- what a translation gives: its frame, and whether it is dirty
abbrev pub translation_of : Entry → ℕ × Bool
translation_of e = (e.frame, e.dirty)

-- v is the least page from `from` on that has an entry
pub record IsLeastFrom (entry : ℕ → Option Entry) (from v : ℕ) : Type 0 where
  pub within : from ≤ v
  pub cached : IsSome (entry v)
  pub least : (w : ℕ) → from ≤ w → w < v → entry w ≡ None

-- no page from `from` on has an entry
abbrev pub HasNoneFrom : (ℕ → Option Entry) → ℕ → Type 0
HasNoneFrom entry from = (w : ℕ) → from ≤ w → entry w ≡ None
