-- What is known at a place of a list of entries in order, and what an edit there gives.
use Rattle.std.proofs.Common.{◌≡◌, ℕ, zero, suc, ◌-◌, ◌<◌, ◌≤◌, List, [], ◌∷◌, length, get_or, set, Some, None, Result, Ok, Err, IfOk, IfErr, refl, sym, ap, subst, arith}
use native.Mathlib.Numerals.{unary_clauses}
use Rattle.std.specs.List.{insert, remove}
use Rattle.std.specs.List.Sorted.{IsSearchInRange, IsBinarySearchResult, IsNonDecreasingBy}
use Rattle.std.specs.Ordering.{nat_cmp, ordering_index}
use Rattle.std.proofs.lemmas.Cmp.{ranked}
use Rattle.std.proofs.lemmas.Bool.Decides.{nat_tests}
use Rattle.nm_xlat.specs.declared.xlat_cache.CachedPage.{CachedPage}
use Rattle.nm_xlat.specs.Entries.{entry_at, IsBelowFirst, IsAscending, put_entry, entries_without}
use Rattle.nm_xlat.specs.Places.{IsEntryAt, IsGap, IsFrom}
use Rattle.nm_xlat.specs.Translations.{IsLeastFrom, HasNoneFrom}
use Rattle.nm_xlat.proofs.Ascending.{entry_at_below, IsBelowFirst-below}

pub at_within : (v : ℕ) (xs : List CachedPage) (i : ℕ) → IsEntryAt v xs i → i < length xs
at_within v [] i h = absurd h
at_within v (x ∷ xs) zero h = omega arith
at_within v (x ∷ xs) (suc i) h = omega (arith, at_within v xs i h.1)

pub gap_within : (v : ℕ) (xs : List CachedPage) (i : ℕ) → IsGap v xs i → i ≤ length xs
gap_within v xs zero h = omega arith
gap_within v [] (suc i) h = absurd h
gap_within v (x ∷ xs) (suc i) h = omega (arith, gap_within v xs i h.1)

-- the entry at a page's place is the page's
pub entry_at-at : (v : ℕ) (xs : List CachedPage) (i : ℕ) (d : CachedPage) → IsEntryAt v xs i → entry_at v xs ≡ Some (get_or xs i d).entry
entry_at-at v [] i d h = absurd h
entry_at-at v (x ∷ xs) zero d h = grind (arith, nat_tests)
entry_at-at v (x ∷ xs) (suc i) d h = grind (arith, nat_tests, entry_at-at v xs i d h.1)

-- and a page with a gap has none
pub entry_at-gap : (v : ℕ) (xs : List CachedPage) (i : ℕ) → IsAscending xs → IsGap v xs i → entry_at v xs ≡ None
entry_at-gap v xs zero a h = entry_at_below v xs h a
entry_at-gap v [] (suc i) a h = refl
entry_at-gap v (x ∷ xs) (suc i) a h = grind (arith, nat_tests, entry_at-gap v xs i a.1 h.1)

-- a put at a page's place writes over it
pub put_entry-at : (x : CachedPage) (ys : List CachedPage) (i : ℕ) → IsEntryAt x.page ys i → put_entry x ys ≡ set ys i x
put_entry-at x [] i h = absurd h
put_entry-at x (y ∷ ys) zero h = grind (arith, nat_tests)
put_entry-at x (y ∷ ys) (suc i) h = grind (arith, nat_tests, put_entry-at x ys i h.1)

-- and in its gap inserts
pub put_entry-gap : (x : CachedPage) (ys : List CachedPage) (i : ℕ) → IsGap x.page ys i → put_entry x ys ≡ insert ys i x
put_entry-gap x [] zero h = refl
put_entry-gap x (y ∷ ys) zero h = grind (arith, nat_tests)
put_entry-gap x [] (suc i) h = absurd h
put_entry-gap x (y ∷ ys) (suc i) h = grind (arith, nat_tests, put_entry-gap x ys i h.1)

-- nothing is dropped of a page below the first
pub entries_without_below : (v : ℕ) (xs : List CachedPage) → IsBelowFirst v xs → IsAscending xs → entries_without v xs ≡ xs
entries_without_below v [] b a = refl
entries_without_below v (x ∷ xs) b a = grind (arith, nat_tests, entries_without_below v xs (IsBelowFirst-below v x.page xs b a.0) a.1)

-- a drop at a page's place removes it
pub entries_without-at : (v : ℕ) (xs : List CachedPage) (i : ℕ) → IsAscending xs → IsEntryAt v xs i → entries_without v xs ≡ remove xs i
entries_without-at v [] i a h = absurd h
entries_without-at v (x ∷ xs) zero a h = grind (arith, nat_tests, entries_without_below v xs (let P : ℕ → Type 0 = λ p. IsBelowFirst p xs in subst P h a.0) a.1)
entries_without-at v (x ∷ xs) (suc i) a h = grind (arith, nat_tests, entries_without-at v xs i a.1 h.1)

-- and where the page has a gap nothing is dropped
pub entries_without-gap : (v : ℕ) (xs : List CachedPage) (i : ℕ) → IsAscending xs → IsGap v xs i → entries_without v xs ≡ xs
entries_without-gap v xs zero a h = entries_without_below v xs h a
entries_without-gap v [] (suc i) a h = refl
entries_without-gap v (x ∷ xs) (suc i) a h = grind (arith, nat_tests, entries_without-gap v xs i a.1 h.1)

-- without its first entry, a list has the gap one place lower
pub gap_in_rest : (v : ℕ) (x : CachedPage) (xs : List CachedPage) (i : ℕ) → IsAscending (x ∷ xs) → IsGap v (x ∷ xs) i → IsGap v xs (i - 1)
gap_in_rest v x xs zero a h = IsBelowFirst-below v x.page xs h a.0
gap_in_rest v x xs (suc i) a h = simp unary_clauses h.1

-- the page at a place from the first on is at least the first page
first_le : (x : CachedPage) (xs : List CachedPage) (i : ℕ) (d : CachedPage) → IsAscending (x ∷ xs) → i < length xs → x.page < (get_or xs i d).page
first_le x [] i d a h = absurd (omega arith)
first_le x (y ∷ ys) zero d a h = a.0
first_le x (y ∷ ys) (suc i) d a h = let l : y.page < (get_or ys i d).page = first_le y ys i d a.1 (omega arith) in omega (arith, a.0)

pub pages_ascend : (xs : List CachedPage) → IsAscending xs → (i j : ℕ) (d : CachedPage) → i < j → j < length xs → (get_or xs i d).page < (get_or xs j d).page
pages_ascend [] a i j d l h = absurd (omega arith)
pages_ascend (x ∷ xs) a i zero d l h = absurd (omega arith)
pages_ascend (x ∷ xs) a zero (suc j) d l h = first_le x xs j d a (omega arith)
pages_ascend (x ∷ xs) a (suc i) (suc j) d l h = pages_ascend xs a.1 i j d (omega arith) (omega arith)

-- a page that stands in a list in order is at its place
pub at_from_equal : (v : ℕ) (xs : List CachedPage) (i : ℕ) (d : CachedPage) → IsAscending xs → i < length xs → (get_or xs i d).page ≡ v → IsEntryAt v xs i
at_from_equal v [] i d a l h = absurd (omega arith)
at_from_equal v (x ∷ xs) zero d a l h = h
at_from_equal v (x ∷ xs) (suc i) d a l h = (let f : x.page < (get_or xs i d).page = first_le x xs i d a (omega arith) in omega arith, at_from_equal v xs i d a.1 (omega arith) h)

-- between smaller and greater pages is the gap
pub gap_from_parts : (v : ℕ) (xs : List CachedPage) (i : ℕ) → i ≤ length xs → ((k : ℕ) (d : CachedPage) → k < i → (get_or xs k d).page < v) → ((k : ℕ) (d : CachedPage) → i ≤ k → k < length xs → v < (get_or xs k d).page) → IsGap v xs i
gap_from_parts v [] zero l below above = tt
gap_from_parts v (x ∷ xs) zero l below above = above 0 x (omega arith) (omega arith)
gap_from_parts v [] (suc i) l below above = absurd (omega arith)
gap_from_parts v (x ∷ xs) (suc i) l below above = (below 0 x (omega arith), gap_from_parts v xs i (omega arith) (λ k d h. below (suc k) d (omega arith)) (λ k d h m. above (suc k) d (omega arith) (omega arith)))

-- the comparisons with v rise along a list in order, as a binary search asks
comparisons_rise : (v : ℕ) (xs : List CachedPage) → IsAscending xs → IsNonDecreasingBy (λ x. ordering_index (nat_cmp x.page v)) xs
comparisons_rise v xs a i j d le in_range =
    let pages_rise : (get_or xs i d).page ≤ (get_or xs j d).page = grind (arith, pages_ascend xs a i j d, λ (same : i ≡ j). ap (λ k. (get_or xs k d).page) same) in
    grind (arith, nat_tests)

-- a binary search by page ends at the page, or in its gap
pub searched : (v : ℕ) (xs : List CachedPage) → IsAscending xs → (r : Result ℕ ℕ) → IsSearchInRange r (length xs) → IsBinarySearchResult (λ x. nat_cmp x.page v) xs r → IfOk r (IsEntryAt v xs) × IfErr r (IsGap v xs)
searched v [] a (Ok i) l equal = absurd (omega arith)
searched v (x ∷ xs) a (Ok i) l equal = (at_from_equal v (x ∷ xs) i x a l (ranked _ v _ (sym (equal x))), tt)
searched v xs a (Err i) l parted = (tt, gap_from_parts v xs i l (λ k d h. ranked _ v _ (sym ((parted (comparisons_rise v xs a)).0 k d (omega arith) h))) (λ k d h m. ranked _ v _ (sym ((parted (comparisons_rise v xs a)).1 k d h m))))

pub from_at : (v : ℕ) (xs : List CachedPage) (i : ℕ) → IsEntryAt v xs i → IsFrom v xs i
from_at v [] i h = absurd h
from_at v (x ∷ xs) zero h = omega arith
from_at v (x ∷ xs) (suc i) h = (h.0, from_at v xs i h.1)

pub from_gap : (v : ℕ) (xs : List CachedPage) (i : ℕ) → IsGap v xs i → IsFrom v xs i
from_gap v [] zero h = tt
from_gap v (x ∷ xs) zero h = omega (arith, h)
from_gap v [] (suc i) h = absurd h
from_gap v (x ∷ xs) (suc i) h = (h.0, from_gap v xs i h.1)

-- where every page is smaller, no page from v on has an entry
pub none_from : (v : ℕ) (xs : List CachedPage) (i : ℕ) → IsFrom v xs i → length xs ≤ i → HasNoneFrom (λ w. entry_at w xs) v
none_from v [] i h l = λ w m. refl
none_from v (x ∷ xs) zero h l = absurd (omega arith)
none_from v (x ∷ xs) (suc i) h l = λ w m. grind (arith, nat_tests, none_from v xs i h.1 (omega arith) w)

-- and otherwise the page at the place is the least
pub least_from : (v : ℕ) (xs : List CachedPage) (i : ℕ) (d : CachedPage) → IsAscending xs → IsFrom v xs i → i < length xs → IsLeastFrom (λ w. entry_at w xs) v (get_or xs i d).page
least_from v [] i d a h l = absurd (omega arith)
least_from v (x ∷ xs) zero d a h l = record { within = h; cached = grind (arith, nat_tests); least = λ w m b. entry_at_below w (x ∷ xs) b a }
least_from v (x ∷ xs) (suc i) d a h l =
    let rest = least_from v xs i d a.1 h.1 (omega arith) in
    record {
      within = rest.within;
      cached = grind (arith, nat_tests, rest.within, rest.cached);
      least = λ w m b. grind (arith, nat_tests, rest.least w m b);
    }
