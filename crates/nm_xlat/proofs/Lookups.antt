-- What a look-up finds in a list of entries after an edit. None of these needs the list in order.
use Rattle.std.proofs.Common.{◌≡◌, ◌≢◌, ℕ, eqb, ltb, Bool, true, false, not, cond, ◌||◌, List, [], ◌∷◌, length, Option, Some, None, is_some, refl, ap, ◌∙◌, arith, ◌⊎◌, inl, inr}
use Rattle.std.proofs.lemmas.Bool.Decides.{nat_tests}
use Rattle.nm_xlat.specs.declared.translations.Entry.{Entry}
use Rattle.nm_xlat.specs.declared.xlat_cache.CachedPage.{CachedPage}
use Rattle.nm_xlat.specs.Entries.{entry_at, put_entry, entries_where, entries_without, least_page, staying_entries}

-- after a put, the page put has the entry put, and each other page what it had
pub entry_at-put_entry : (w : ℕ) (x : CachedPage) (ys : List CachedPage) → entry_at w (put_entry x ys) ≡ cond (eqb w x.page) (Some x.entry) (entry_at w ys)
entry_at-put_entry w x [] = refl
entry_at-put_entry w x (y ∷ ys) = grind (arith, nat_tests, entry_at-put_entry w x ys)

-- of the entries whose pages pass a test, those are found
pub entry_at-entries_where : (test : ℕ → Bool) (w : ℕ) (xs : List CachedPage) → entry_at w (entries_where test xs) ≡ cond (test w) (entry_at w xs) None
entry_at-entries_where test w [] = elim (test w) as (λ b. ◌≡◌ {A = Option Entry} None (cond b None None)) [ true ↦ refl | false ↦ refl ]
entry_at-entries_where test w (x ∷ xs) = grind (arith, nat_tests, λ (e : w ≡ x.page). ap test e, entry_at-entries_where test w xs)

-- without v, each other page has what it had
pub entry_at-entries_without : (w v : ℕ) (xs : List CachedPage) → entry_at w (entries_without v xs) ≡ cond (eqb w v) None (entry_at w xs)
entry_at-entries_without w v xs = entry_at-entries_where (λ u. not (eqb u v)) w xs ∙ elim (eqb w v) as (λ b. cond (not b) (entry_at w xs) None ≡ cond b None (entry_at w xs)) [ true ↦ refl | false ↦ refl ]

-- of the entries that stay at a put, each page has what it had, or none
pub entry_at-staying_entries : (w room v : ℕ) (rivals xs : List CachedPage) → (entry_at w (staying_entries room v rivals xs) ≡ entry_at w xs) ⊎ (entry_at w (staying_entries room v rivals xs) ≡ None)
entry_at-staying_entries w room v rivals xs = elim (is_some (entry_at v rivals) || ltb (length rivals) room) as (λ b. (entry_at w (cond b xs (entries_without (least_page rivals) xs)) ≡ entry_at w xs) ⊎ (entry_at w (cond b xs (entries_without (least_page rivals) xs)) ≡ None)) [
  | true ↦ inl refl
  | false ↦ rw entry_at-entries_without (elim (eqb w (least_page rivals)) as (λ b. (cond b None (entry_at w xs) ≡ entry_at w xs) ⊎ (cond b None (entry_at w xs) ≡ None)) [ true ↦ inr refl | false ↦ inl refl ])
]

-- after a put and what it drops, the page put has the entry put
pub this_page_at-put : (x : CachedPage) (ys : List CachedPage) → entry_at x.page (put_entry x ys) ≡ Some x.entry
this_page_at-put x ys = grind (arith, nat_tests, entry_at-put_entry x.page x ys)

-- and each other page what it had, or none
pub other_pages_at-put : (x : CachedPage) (room : ℕ) (rivals xs : List CachedPage) (w : ℕ) → w ≢ x.page → (entry_at w (put_entry x (staying_entries room x.page rivals xs)) ≡ entry_at w xs) ⊎ (entry_at w (put_entry x (staying_entries room x.page rivals xs)) ≡ None)
other_pages_at-put x room rivals xs w ne = grind (arith, nat_tests, entry_at-put_entry w x (staying_entries room x.page rivals xs), entry_at-staying_entries w room x.page rivals xs)
