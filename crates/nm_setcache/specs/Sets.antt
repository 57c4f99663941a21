-- How a list of fully associative caches makes a set-associative one.
use Rattle.std.specs.Prelude.{◌≡◌, ◌≢◌, ℕ, ◌%◌, ◌<◌, ◌≤◌, min, List, [], ◌∷◌, length, Option, Some, None, slice_index_or}
use Rattle.nm_xlat.specs.declared.xlat_cache.CachedPage.{CachedPage}
use Rattle.nm_xlat.specs.Entries.{entry_at, IsAscending, put_entry}
use Rattle.nm_xlat.specs.FullyAssociative.{FullyAssociative}

-- the entries of both lists by ascending page, where the first's take the place of the second's
abbrev pub put_all : List CachedPage → List CachedPage → List CachedPage
put_all [] ys = ys
put_all (x ∷ xs) ys = put_entry x (put_all xs ys)

-- the entries of all sets by ascending page
abbrev pub entries_of_sets : List FullyAssociative → List CachedPage
entries_of_sets [] = []
entries_of_sets (s ∷ ss) = put_all s.entries (entries_of_sets ss)

-- how many entries a set may have
abbrev pub ways_of : List FullyAssociative → ℕ
ways_of [] = 0
ways_of (s ∷ ss) = s.room

-- s is the k-th of n sets: its pages ascend, and each has the remainder k
pub record IsSet (n ways k : ℕ) (s : FullyAssociative) : Type 0 where
  pub room : s.room ≡ ways
  pub ascends : IsAscending s.entries
  pub remainder : (w : ℕ) → w % n ≢ k → entry_at w s.entries ≡ None

-- each of the caches is the set of its place
pub record AreSets (ss : List FullyAssociative) : Type 0 where
  pub some_set : 1 ≤ length ss
  pub some_way : 1 ≤ ways_of ss
  pub each : (k : ℕ) (d : FullyAssociative) → k < length ss → IsSet (length ss) (ways_of ss) k (slice_index_or ss k d)

-- the lesser of two pages, where there are any
abbrev pub lesser_of : Option ℕ → Option ℕ → Option ℕ
lesser_of None b = b
lesser_of (Some x) None = Some x
lesser_of (Some x) (Some y) = Some (min x y)
