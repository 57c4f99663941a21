-- Where a page stands in a list of entries, or would go.
use Rattle.std.specs.Prelude.{◌≡◌, ℕ, zero, suc, ◌<◌, ◌≤◌, List, [], ◌∷◌}
use Rattle.nm_xlat.specs.declared.xlat_cache.CachedPage.{CachedPage}
use Rattle.nm_xlat.specs.Entries.{IsBelowFirst}

-- page v stands at place i, and the pages before it are smaller
abbrev pub IsEntryAt : ℕ → List CachedPage → ℕ → Type 0
IsEntryAt v [] i = ⊥
IsEntryAt v (x ∷ xs) zero = x.page ≡ v
IsEntryAt v (x ∷ xs) (suc i) = (x.page < v) × IsEntryAt v xs i

-- page v would go to place i: the pages before it are smaller, and the page at it is greater
abbrev pub IsGap : ℕ → List CachedPage → ℕ → Type 0
IsGap v xs zero = IsBelowFirst v xs
IsGap v [] (suc i) = ⊥
IsGap v (x ∷ xs) (suc i) = (x.page < v) × IsGap v xs i

-- i is the place of the first page from v on, or the length where there is none: the pages before it are smaller
abbrev pub IsFrom : ℕ → List CachedPage → ℕ → Type 0
IsFrom v [] zero = Unit {0}
IsFrom v (x ∷ xs) zero = v ≤ x.page
IsFrom v [] (suc i) = ⊥
IsFrom v (x ∷ xs) (suc i) = (x.page < v) × IsFrom v xs i
