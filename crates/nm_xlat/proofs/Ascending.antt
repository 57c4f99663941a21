-- Lists of entries by ascending page: what keeps the order, and that look-ups tell two such lists apart.
use Rattle.std.proofs.Common.{◌≡◌, ℕ, suc, ◌<◌, ◌≤◌, eqb, ltb, Bool, true, false, not, cond, List, [], ◌∷◌, length, None, is_some, ◌||◌, refl, sym, subst, arith, inl, inr}
use Rattle.std.proofs.lemmas.Bool.Decides.{nat_tests, eqb_tells, leb_tells}
use Rattle.std.proofs.lemmas.Bool.{cases_lt}
use Rattle.nm_xlat.specs.declared.xlat_cache.CachedPage.{CachedPage}
use Rattle.nm_xlat.specs.Entries.{entry_at, IsBelowFirst, IsAscending, put_entry, entries_where, entries_without, least_page, staying_entries}

-- a page below the first has no entry
pub entry_at_below : (v : ℕ) (xs : List CachedPage) → IsBelowFirst v xs → IsAscending xs → entry_at v xs ≡ None
entry_at_below v [] b a = refl
entry_at_below v (x ∷ []) b a = grind (arith, nat_tests)
entry_at_below v (x ∷ (y ∷ ys)) b a = grind (arith, nat_tests, entry_at_below v (y ∷ ys) (omega (arith, b, a.0)) a.1)

IsBelowFirst-put_entry : (p : ℕ) (x : CachedPage) (ys : List CachedPage) → p < x.page → IsBelowFirst p ys → IsBelowFirst p (put_entry x ys)
IsBelowFirst-put_entry p x [] h b = h
IsBelowFirst-put_entry p x (y ∷ ys) h b = grind (arith, nat_tests)

-- a put keeps the order
pub IsAscending-put_entry : (x : CachedPage) (ys : List CachedPage) → IsAscending ys → IsAscending (put_entry x ys)
IsAscending-put_entry x [] a = (tt, tt)
IsAscending-put_entry x (y ∷ ys) a = elim (eqb_tells x.page y.page) [
  | inl h ↦ rw h.0 (let P : ℕ → Type 0 = λ p. IsBelowFirst p ys in (subst P (sym h.1) a.0, a.1))
  | inr h ↦ rw h.0 (elim (leb_tells (suc x.page) y.page) [
    | inl l ↦ rw l.0 (l.1, a)
    | inr l ↦ rw l.0 (IsBelowFirst-put_entry y.page x ys (omega (arith, h.1, l.1)) a.0, IsAscending-put_entry x ys a.1)
  ])
]

pub IsBelowFirst-below : (p q : ℕ) (xs : List CachedPage) → p < q → IsBelowFirst q xs → IsBelowFirst p xs
IsBelowFirst-below p q [] h b = tt
IsBelowFirst-below p q (x ∷ xs) h b = omega (arith, b)

IsBelowFirst-entries_where : (test : ℕ → Bool) (p : ℕ) (xs : List CachedPage) → IsBelowFirst p xs → IsAscending xs → IsBelowFirst p (entries_where test xs)
IsBelowFirst-entries_where test p [] b a = tt
IsBelowFirst-entries_where test p (x ∷ xs) b a = elim (test x.page) as (λ t. IsBelowFirst p (cond t (x ∷ entries_where test xs) (entries_where test xs))) [
  | true ↦ b
  | false ↦ IsBelowFirst-entries_where test p xs (IsBelowFirst-below p x.page xs b a.0) a.1
]

-- so do the entries whose pages pass a test
pub IsAscending-entries_where : (test : ℕ → Bool) (xs : List CachedPage) → IsAscending xs → IsAscending (entries_where test xs)
IsAscending-entries_where test [] a = tt
IsAscending-entries_where test (x ∷ xs) a = elim (test x.page) as (λ t. IsAscending (cond t (x ∷ entries_where test xs) (entries_where test xs))) [
  | true ↦ (IsBelowFirst-entries_where test x.page xs a.0 a.1, IsAscending-entries_where test xs a.1)
  | false ↦ IsAscending-entries_where test xs a.1
]

pub IsAscending-entries_without : (v : ℕ) (xs : List CachedPage) → IsAscending xs → IsAscending (entries_without v xs)
IsAscending-entries_without v xs a = IsAscending-entries_where (λ w. not (eqb w v)) xs a

pub IsAscending-staying_entries : (room v : ℕ) (rivals xs : List CachedPage) → IsAscending xs → IsAscending (staying_entries room v rivals xs)
IsAscending-staying_entries room v rivals xs a = elim (is_some (entry_at v rivals) || ltb (length rivals) room) as (λ b. IsAscending (cond b xs (entries_without (least_page rivals) xs))) [
  | true ↦ a
  | false ↦ IsAscending-entries_without (least_page rivals) xs a
]

-- the least page is the first
pub least_page_first : (x : CachedPage) (xs : List CachedPage) → IsAscending (x ∷ xs) → least_page (x ∷ xs) ≡ x.page
least_page_first x [] a = refl
least_page_first x (y ∷ ys) a = grind (arith, least_page_first y ys a.1)

-- the first page of a list in order has its first entry, and no entry in another list in order that begins above it
not_below_first : (x y : CachedPage) (xs ys : List CachedPage) → IsAscending (y ∷ ys) → entry_at x.page (x ∷ xs) ≡ entry_at x.page (y ∷ ys) → y.page ≤ x.page
not_below_first x y xs ys b same = elim (cases_lt x.page y.page) [
  | inl below ↦ let none : entry_at x.page (y ∷ ys) ≡ None = entry_at_below x.page (y ∷ ys) below b in absurd (grind (arith, nat_tests))
  | inr l ↦ l
]

same_first_entry : (x y : CachedPage) (xs ys : List CachedPage) → x.page ≡ y.page → entry_at x.page (x ∷ xs) ≡ entry_at x.page (y ∷ ys) → x.entry ≡ y.entry
same_first_entry x y xs ys p same = grind (arith, nat_tests)

-- the rest of a list in order has no entry of its first page
same_rest : (x y : CachedPage) (xs ys : List CachedPage) → x.page ≡ y.page → IsAscending (x ∷ xs) → IsAscending (y ∷ ys) → (w : ℕ) → entry_at w (x ∷ xs) ≡ entry_at w (y ∷ ys) → entry_at w xs ≡ entry_at w ys
same_rest x y xs ys p a b w same = grind (arith, nat_tests, entry_at_below x.page xs a.0 a.1, entry_at_below y.page ys b.0 b.1)

-- two lists in order with the same look-ups are equal
pub same_entries : (xs ys : List CachedPage) → IsAscending xs → IsAscending ys → ((w : ℕ) → entry_at w xs ≡ entry_at w ys) → xs ≡ ys
same_entries [] [] a b same = refl
same_entries [] (y ∷ ys) a b same = grind (arith, nat_tests, same y.page)
same_entries (x ∷ xs) [] a b same = grind (arith, nat_tests, same x.page)
same_entries (x ∷ xs) (y ∷ ys) a b same =
    let p : x.page ≡ y.page = omega (arith, not_below_first x y xs ys b (same x.page), not_below_first y x ys xs a (sym (same y.page))) in
    let e : x.entry ≡ y.entry = same_first_entry x y xs ys p (same x.page) in
    let first : x ≡ y = λ i. record { page = p i; entry = e i } in
    let rest : xs ≡ ys = same_entries xs ys a.1 b.1 (λ w. same_rest x y xs ys p a b w (same w)) in
    λ i. first i ∷ rest i
