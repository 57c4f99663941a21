-- What a put into a fully associative cache comes to at the place that a search ended at.
use Rattle.std.proofs.Common.{◌≡◌, ℕ, ◌-◌, ◌<◌, ◌≤◌, List, [], ◌∷◌, length, set, Some, None, refl, arith}
use Rattle.std.specs.List.{insert, remove}
use Rattle.std.proofs.lemmas.Bool.Decides.{nat_tests}
use Rattle.nm_xlat.specs.declared.translations.Entry.{Entry}
use Rattle.nm_xlat.specs.declared.xlat_cache.CachedPage.{CachedPage}
use Rattle.nm_xlat.specs.Entries.{entry_at, IsAscending, put_entry, entries_without, staying_entries}
use Rattle.nm_xlat.specs.Places.{IsEntryAt, IsGap}
use Rattle.nm_xlat.specs.FullyAssociative.{FullyAssociative, put_in}
use Rattle.nm_xlat.proofs.Ascending.{least_page_first, IsAscending-put_entry}
use Rattle.nm_xlat.proofs.Placed.{entry_at-at, entry_at-gap, put_entry-at, put_entry-gap, entries_without_below, gap_in_rest}

-- where the page put is among the rivals, every entry stays
pub staying_entries_known : (room v : ℕ) (rivals xs : List CachedPage) (e : Entry) → entry_at v rivals ≡ Some e → staying_entries room v rivals xs ≡ xs
staying_entries_known room v rivals xs e h = grind (arith, nat_tests)

-- where there is room, every entry stays
pub staying_entries_room : (room v : ℕ) (rivals xs : List CachedPage) → length rivals < room → staying_entries room v rivals xs ≡ xs
staying_entries_room room v rivals xs h = grind (arith, nat_tests)

-- in a full cache, all but the first stay for a new page
pub staying_entries_full : (room v : ℕ) (x : CachedPage) (xs : List CachedPage) → IsAscending (x ∷ xs) → entry_at v (x ∷ xs) ≡ None → room ≤ length (x ∷ xs) → staying_entries room v (x ∷ xs) (x ∷ xs) ≡ xs
staying_entries_full room v x xs a new full =
    let least = least_page_first x xs a in
    let rest : entries_without x.page xs ≡ xs = entries_without_below x.page xs a.0 a.1 in
    grind (arith, nat_tests)

-- a put at the page's place writes over it
pub put_in-at : (x : CachedPage) (c : FullyAssociative) (i : ℕ) → IsEntryAt x.page c.entries i → put_in x c ≡ record c { entries = set c.entries i x }
put_in-at x c i h =
    let d : CachedPage = x in
    let stays = staying_entries_known c.room x.page c.entries c.entries _ (entry_at-at x.page c.entries i d h) in
    rw (stays, put_entry-at x c.entries i h) refl

-- where there is room, a put in the gap inserts
pub put_in-gap : (x : CachedPage) (c : FullyAssociative) (i : ℕ) → IsGap x.page c.entries i → length c.entries < c.room → put_in x c ≡ record c { entries = insert c.entries i x }
put_in-gap x c i h room = rw (staying_entries_room c.room x.page c.entries c.entries room, put_entry-gap x c.entries i h) refl

full_of : (x : CachedPage) (room : ℕ) (xs : List CachedPage) (i : ℕ) → IsAscending xs → IsGap x.page xs i → 1 ≤ room → room ≤ length xs → put_entry x (staying_entries room x.page xs xs) ≡ insert (remove xs 0) (i - 1) x
full_of x room [] i a h one full = absurd (omega arith)
full_of x room (y ∷ ys) i a h one full =
    rw (staying_entries_full room x.page y ys a (entry_at-gap x.page (y ∷ ys) i a h) full) (put_entry-gap x ys (i - 1) (gap_in_rest x.page y ys i a h))

-- in a full cache, the first entry goes
pub put_in-full : (x : CachedPage) (c : FullyAssociative) (i : ℕ) → IsAscending c.entries → IsGap x.page c.entries i → 1 ≤ c.room → c.room ≤ length c.entries → put_in x c ≡ record c { entries = insert (remove c.entries 0) (i - 1) x }
put_in-full x c i a h one full = rw (full_of x c.room c.entries i a h one full) refl

-- each of these keeps the order
pub ascending-set : (x : CachedPage) (xs : List CachedPage) (i : ℕ) → IsAscending xs → IsEntryAt x.page xs i → IsAscending (set xs i x)
ascending-set x xs i a h = rw (← put_entry-at x xs i h) (IsAscending-put_entry x xs a)

pub ascending-insert : (x : CachedPage) (xs : List CachedPage) (i : ℕ) → IsAscending xs → IsGap x.page xs i → IsAscending (insert xs i x)
ascending-insert x xs i a h = rw (← put_entry-gap x xs i h) (IsAscending-put_entry x xs a)

pub ascending-insert_full : (x : CachedPage) (xs : List CachedPage) (i : ℕ) → IsAscending xs → IsGap x.page xs i → 1 ≤ length xs → IsAscending (insert (remove xs 0) (i - 1) x)
ascending-insert_full x [] i a h l = absurd (omega arith)
ascending-insert_full x (y ∷ ys) i a h l = ascending-insert x ys (i - 1) a.1 (gap_in_rest x.page y ys i a h)
