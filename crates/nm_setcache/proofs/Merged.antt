-- What a look-up finds in the entries of all sets.
use Rattle.std.proofs.Common.{◌≡◌, ◌≢◌, ℕ, zero, suc, ◌+◌, ◌%◌, ◌<◌, eqb, List, [], ◌∷◌, length, get_or, Option, Some, None, refl, sym, subst, arith, inl, inr}
use Rattle.std.proofs.lemmas.Bool.Decides.{nat_tests, eqb_tells}
use Rattle.nm_xlat.specs.declared.translations.Entry.{Entry}
use Rattle.nm_xlat.specs.declared.xlat_cache.CachedPage.{CachedPage}
use Rattle.nm_xlat.specs.Entries.{entry_at, IsAscending}
use Rattle.nm_xlat.specs.FullyAssociative.{FullyAssociative}
use Rattle.nm_xlat.proofs.Lookups.{entry_at-put_entry, entry_at-entries_where}
use Rattle.nm_xlat.proofs.Ascending.{IsAscending-put_entry, IsAscending-entries_where, same_entries}
use Rattle.nm_setcache.specs.SetAssociative.{entries_of_set}
use Rattle.nm_setcache.specs.Sets.{put_all, entries_of_sets, ways_of, IsSet, AreSets}

-- the first, or else the second
abbrev pub or_else : Option Entry → Option Entry → Option Entry
or_else None b = b
or_else (Some x) b = Some x

or_else-None : (o : Option Entry) → or_else o None ≡ o
or_else-None None = refl
or_else-None (Some x) = refl

pub entry_at-put_all : (w : ℕ) (xs ys : List CachedPage) → entry_at w (put_all xs ys) ≡ or_else (entry_at w xs) (entry_at w ys)
entry_at-put_all w [] ys = refl
entry_at-put_all w (x ∷ xs) ys = grind (arith, nat_tests, entry_at-put_entry w x (put_all xs ys), entry_at-put_all w xs ys)

IsAscending-put_all : (xs ys : List CachedPage) → IsAscending ys → IsAscending (put_all xs ys)
IsAscending-put_all [] ys a = a
IsAscending-put_all (x ∷ xs) ys a = IsAscending-put_entry x (put_all xs ys) (IsAscending-put_all xs ys a)

-- the entries of all sets ascend
pub IsAscending-entries_of_sets : (ss : List FullyAssociative) → IsAscending (entries_of_sets ss)
IsAscending-entries_of_sets [] = tt
IsAscending-entries_of_sets (s ∷ ss) = IsAscending-put_all s.entries (entries_of_sets ss) (IsAscending-entries_of_sets ss)

-- the caches are the sets from the k-th on
abbrev AreSetsFrom : ℕ → ℕ → ℕ → List FullyAssociative → Type 0
AreSetsFrom n ways k ss = (i : ℕ) (d : FullyAssociative) → i < length ss → IsSet n ways (k + i) (get_or ss i d)

rest_from : (n ways k : ℕ) (s : FullyAssociative) (ss : List FullyAssociative) → AreSetsFrom n ways k (s ∷ ss) → AreSetsFrom n ways (k + 1) ss
rest_from n ways k s ss h = λ i d l. let P : ℕ → Type 0 = λ m. IsSet n ways m (get_or ss i d) in subst P {x = k + suc i} (omega arith) (h (suc i) d (omega arith))

-- a page of an earlier set has no entry in the later ones
none_in_later : (n ways k : ℕ) (ss : List FullyAssociative) → AreSetsFrom n ways k ss → (w : ℕ) → w % n < k → entry_at w (entries_of_sets ss) ≡ None
none_in_later n ways k [] h w l = refl
none_in_later n ways k (s ∷ ss) h w l =
    let ne : w % n ≢ k + 0 = omega arith in
    rw (entry_at-put_all w s.entries (entries_of_sets ss), (h 0 s (omega arith)).remainder w ne) (none_in_later n ways (k + 1) ss (rest_from n ways k s ss h) w (omega arith))

found_in_own : (n ways k : ℕ) (ss : List FullyAssociative) → AreSetsFrom n ways k ss → (w i : ℕ) (d : FullyAssociative) → w % n ≡ k + i → i < length ss → entry_at w (entries_of_sets ss) ≡ entry_at w (get_or ss i d).entries
found_in_own n ways k [] h w i d e l = absurd (omega arith)
found_in_own n ways k (s ∷ ss) h w zero d e l =
    rw (entry_at-put_all w s.entries (entries_of_sets ss), none_in_later n ways (k + 1) ss (rest_from n ways k s ss h) w (omega arith)) (or_else-None (entry_at w s.entries))
found_in_own n ways k (s ∷ ss) h w (suc i) d e l =
    let ne : w % n ≢ k + 0 = omega arith in
    rw (entry_at-put_all w s.entries (entries_of_sets ss), (h 0 s (omega arith)).remainder w ne) (found_in_own n ways (k + 1) ss (rest_from n ways k s ss h) w i d (omega arith) (omega arith))

-- the entries of all sets have, of each page, what its set has
pub entry_at-entries_of_sets : (ss : List FullyAssociative) → AreSets ss → (w i : ℕ) (d : FullyAssociative) → w % length ss ≡ i → entry_at w (entries_of_sets ss) ≡ entry_at w (get_or ss i d).entries
entry_at-entries_of_sets ss h w i d e =
    let from : AreSetsFrom (length ss) (ways_of ss) 0 ss = λ k f l. let P : ℕ → Type 0 = λ m. IsSet (length ss) (ways_of ss) m (get_or ss k f) in subst P {x = k} (omega arith) (h.each k f l) in
    found_in_own (length ss) (ways_of ss) 0 ss from w i d (omega arith) (omega (arith, h.some_set))

-- the entries of a page's set, among those of all sets, are its set's
pub entries_of_set-entries_of_sets : (ss : List FullyAssociative) → AreSets ss → (v : ℕ) (d : FullyAssociative) → entries_of_set (length ss) v (entries_of_sets ss) ≡ (get_or ss (v % length ss) d).entries
entries_of_set-entries_of_sets ss h v d =
    let s = get_or ss (v % length ss) d in
    let is : IsSet (length ss) (ways_of ss) (v % length ss) s = h.each (v % length ss) d (omega (arith, h.some_set)) in
    same_entries _ _ (IsAscending-entries_where (λ w. eqb (w % length ss) (v % length ss)) (entries_of_sets ss) (IsAscending-entries_of_sets ss)) is.ascends (λ w.
    rw entry_at-entries_where (elim (eqb_tells (w % length ss) (v % length ss)) [
      | inl t ↦ rw t.0 (entry_at-entries_of_sets ss h w (v % length ss) d t.1)
      | inr t ↦ rw t.0 (sym (is.remainder w t.1))
    ]))

-- among the entries of a page's set, the page has what it has among all
pub entry_at-entries_of_set : (n v : ℕ) (xs : List CachedPage) → entry_at v (entries_of_set n v xs) ≡ entry_at v xs
entry_at-entries_of_set n v xs = grind (arith, nat_tests, entry_at-entries_where (λ w. eqb (w % n) (v % n)) v xs)
