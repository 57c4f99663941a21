-- A fully associative translation cache as contracts see it.
use Rattle.std.specs.Prelude.{ℕ, List}
use Rattle.nm_xlat.specs.declared.xlat_cache.CachedPage.{CachedPage}
use Rattle.nm_xlat.specs.Entries.{put_entry, staying_entries}

-- how many entries it may have, and its entries by ascending page
pub record FullyAssociative : Type 0 where
  pub room : ℕ
  pub entries : List CachedPage

-- the cache after a put of x: where x's page is new and the cache is full, the least page loses its entry
abbrev pub put_in : CachedPage → FullyAssociative → FullyAssociative
put_in x c = record c { entries = put_entry x (staying_entries c.room x.page c.entries c.entries) }
