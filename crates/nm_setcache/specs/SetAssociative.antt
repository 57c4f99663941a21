-- A set-associative translation cache as contracts see it.
use Rattle.std.specs.Prelude.{ℕ, ◌%◌, ◌==◌, List}
use Rattle.nm_xlat.specs.declared.xlat_cache.CachedPage.{CachedPage}
use Rattle.nm_xlat.specs.Entries.{put_entry, entries_where, staying_entries}

-- the number of its sets, how many entries each may have, and all its entries by ascending page
pub record SetAssociative : Type 0 where
  pub sets : ℕ
  pub ways : ℕ
  pub entries : List CachedPage

-- the entries of page v's set: those whose pages have v's remainder by the number of sets
abbrev pub entries_of_set : ℕ → ℕ → List CachedPage → List CachedPage
entries_of_set sets v xs = entries_where (λ w. w % sets == v % sets) xs

-- the cache after a put of x: where x's page is new and its set is full, the set's least page loses its entry
abbrev pub put_in_set : CachedPage → SetAssociative → SetAssociative
put_in_set x c = record c { entries = put_entry x (staying_entries c.ways x.page (entries_of_set c.sets x.page c.entries) c.entries) }
