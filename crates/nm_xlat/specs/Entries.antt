-- The entries of a translation cache as a plain list of pages with their entries.
use Rattle.std.specs.Prelude.{ℕ, ◌<◌, min, Bool, not, ◌||◌, List, [], ◌∷◌, length, Option, Some, None, is_some, if◌then◌else◌, nat_lt, ◌==◌}
use Rattle.std.specs.List.{filter}
use Rattle.nm_xlat.specs.declared.translations.Entry.{Entry}
use Rattle.nm_xlat.specs.declared.xlat_cache.CachedPage.{CachedPage}

-- the entry of page v, if it has one
abbrev pub entry_at : ℕ → List CachedPage → Option Entry
entry_at v [] = None
entry_at v (x ∷ xs) = if v == x.page then Some x.entry else entry_at v xs

-- p is below the first page, if there is one
abbrev pub IsBelowFirst : ℕ → List CachedPage → Type 0
IsBelowFirst p [] = Unit {0}
IsBelowFirst p (x ∷ xs) = p < x.page

-- the pages ascend, so no page comes twice
abbrev pub IsAscending : List CachedPage → Type 0
IsAscending [] = Unit {0}
IsAscending (x ∷ xs) = IsBelowFirst x.page xs × IsAscending xs

-- the entries with x in its place by page, where it takes the place of an older entry of its page
abbrev pub put_entry : CachedPage → List CachedPage → List CachedPage
put_entry x [] = x ∷ []
put_entry x (y ∷ ys) =
    if x.page == y.page then x ∷ ys else (if nat_lt x.page y.page then x ∷ (y ∷ ys) else y ∷ put_entry x ys)

-- the entries whose pages pass a test
abbrev pub entries_where : (ℕ → Bool) → List CachedPage → List CachedPage
entries_where test xs = filter (λ x. test x.page) xs

-- the entries of every page but v
abbrev pub entries_without : ℕ → List CachedPage → List CachedPage
entries_without v xs = entries_where (λ w. not (w == v)) xs

-- the least page that has an entry; 0 where none has
abbrev pub least_page : List CachedPage → ℕ
least_page [] = 0
least_page (x ∷ []) = x.page
least_page (x ∷ (y ∷ ys)) = min x.page (least_page (y ∷ ys))

-- the entries that stay where page v is put among `rivals`, which may be `room` many: all of them, but for the
-- least page of `rivals` where v is new there and they are `room` many already
abbrev pub staying_entries : ℕ → ℕ → List CachedPage → List CachedPage → List CachedPage
staying_entries room v rivals xs =
    if is_some (entry_at v rivals) || nat_lt (length rivals) room then xs else entries_without (least_page rivals) xs
