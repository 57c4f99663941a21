-- The virtual pages of each backing page, in chains.
use Rattle.std.specs.Prelude.{◌≡◌, ◌≢◌, ℕ, ◌+◌, ◌≤◌, List, length, slice_index_or, Option, Some, None, MatchOption}
use Rattle.nm_base.specs.declared.geometry.VPage.{VPage}
use Rattle.nm_base.specs.declared.reverse_map.ReverseMap.{ReverseMap}
use Rattle.nm_base.specs.Geometry.{IsNextVPage, backing_among, pages_of}

-- the least virtual page of a backing page that is at least `start`, or none where there is none
abbrev pub IsNextIn : List (Option VPage) → ℕ → ℕ → Option ℕ → Type 0
IsNextIn vs page start next = MatchOption next ((v : ℕ) → start ≤ v → backing_among vs v ≢ Some page) (IsNextVPage vs page start)

-- the same of some start that is at most this one
pub record IsNextFromBelow (vs : List (Option VPage)) (page most : ℕ) (found : Option ℕ) : Type 0 where
  pub start : ℕ
  pub below : start ≤ most
  pub is : IsNextIn vs page start found

-- of the virtual pages from `start` on, the first of each backing page, and the one after each
pub record AreChains (vs : List (Option VPage)) (start : ℕ) (first next : List (Option ℕ)) : Type 0 where
  pub pages : length first ≡ pages_of vs
  pub vpages : length next ≡ length vs
  pub least : (page : ℕ) → IsNextIn vs page start (slice_index_or first page None)
  pub after : (v page : ℕ) → start ≤ v → backing_among vs v ≡ Some page → IsNextIn vs page (v + 1) (slice_index_or next v None)

-- the chains of all virtual pages
abbrev pub IsReverseMap : List (Option VPage) → ReverseMap → Type 0
IsReverseMap vs m = AreChains vs 0 m.first.items m.next.items
