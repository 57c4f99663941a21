-- What an edit of one set does to the entries of all sets.
use Rattle.std.proofs.Common.{◌≡◌, ◌≢◌, ℕ, zero, suc, ◌%◌, ◌<◌, ◌≤◌, eqb, ltb, true, false, cond, ◌||◌, List, [], ◌∷◌, length, get_or, set, None, is_some, IsSome, refl, sym, ap, ◌∙◌, arith, inl, inr}
use Rattle.std.proofs.lemmas.Bool.Decides.{nat_tests, eqb_tells, leb_tells}
use Rattle.std.proofs.lemmas.Bool.{cases_eq}
use Rattle.std.proofs.lemmas.List.{length-set, get_or-set_same, get_or-set_other, get_or_default}
use Rattle.nm_xlat.specs.declared.xlat_cache.CachedPage.{CachedPage}
use Rattle.nm_xlat.specs.Entries.{entry_at, IsAscending, put_entry, entries_without, least_page, staying_entries}
use Rattle.nm_xlat.specs.FullyAssociative.{FullyAssociative, put_in}
use Rattle.nm_xlat.proofs.Lookups.{entry_at-put_entry, entry_at-entries_without, other_pages_at-put}
use Rattle.nm_xlat.proofs.Ascending.{IsAscending-put_entry, IsAscending-entries_without, IsAscending-staying_entries, least_page_first, same_entries}
use Rattle.nm_xlat.proofs.Puts.{staying_entries_room}
use Rattle.nm_setcache.specs.SetAssociative.{SetAssociative, entries_of_set, put_in_set}
use Rattle.nm_setcache.specs.Sets.{entries_of_sets, ways_of, IsSet, AreSets}
use Rattle.nm_setcache.proofs.Merged.{IsAscending-entries_of_sets, entry_at-entries_of_sets, entries_of_set-entries_of_sets}

-- an edit that keeps a set's room keeps the ways
ways_of-set : (ss : List FullyAssociative) (i : ℕ) (s : FullyAssociative) → ((d : FullyAssociative) → i < length ss → s.room ≡ (get_or ss i d).room) → ways_of (set ss i s) ≡ ways_of ss
ways_of-set [] i s h = refl
ways_of-set (t ∷ ts) zero s h = h t (omega arith)
ways_of-set (t ∷ ts) (suc i) s h = refl

-- an edit that leaves a set in its place leaves all sets
pub AreSets-set : (ss : List FullyAssociative) (i : ℕ) (s : FullyAssociative) → AreSets ss → i < length ss → IsSet (length ss) (ways_of ss) i s → AreSets (set ss i s)
AreSets-set ss i s h l is =
    let ways : ways_of (set ss i s) ≡ ways_of ss = ways_of-set ss i s (λ d m. is.room ∙ sym (h.each i d m).room) in
    let len : length (set ss i s) ≡ length ss = length-set ss i s in
    record {
      some_set = omega (arith, len, h.some_set);
      some_way = omega (arith, ways, h.some_way);
      each = λ k d m. rw (len, ways) (elim (cases_eq k i) [
        | inl e ↦ rw (e, get_or-set_same ss i s d l) is
        | inr ne ↦ rw (get_or-set_other ss i k s d ne) (h.each k d (omega (arith, len)))
      ]);
    }

-- after an edit of set i, each page of set i has what the new set has, and each other page what it had
pub entry_at-entries_of_sets-set : (ss : List FullyAssociative) (i : ℕ) (s : FullyAssociative) → AreSets ss → i < length ss → IsSet (length ss) (ways_of ss) i s → (w : ℕ) → entry_at w (entries_of_sets (set ss i s)) ≡ cond (eqb (w % length ss) i) (entry_at w s.entries) (entry_at w (entries_of_sets ss))
entry_at-entries_of_sets-set ss i s h l is w =
    let new : AreSets (set ss i s) = AreSets-set ss i s h l is in
    let len : length (set ss i s) ≡ length ss = length-set ss i s in
    elim (eqb_tells (w % length ss) i) [
      | inl t ↦ rw t.0 (entry_at-entries_of_sets (set ss i s) new w i s (rw len t.1) ∙ ap (λ (x : FullyAssociative). entry_at w x.entries) (get_or-set_same ss i s s l))
      | inr t ↦ rw t.0 (entry_at-entries_of_sets (set ss i s) new w (w % length ss) s (rw len refl) ∙ ap (λ (x : FullyAssociative). entry_at w x.entries) (get_or-set_other ss i (w % length ss) s s t.1) ∙ sym (entry_at-entries_of_sets ss h w (w % length ss) s refl))
    ]

-- the set of page v
abbrev pub set_at : List FullyAssociative → ℕ → FullyAssociative → FullyAssociative
set_at ss v d = get_or ss (v % length ss) d

-- a put of a page of the set leaves a set
pub IsSet-put_in : (n ways k : ℕ) (s : FullyAssociative) (x : CachedPage) → IsSet n ways k s → x.page % n ≡ k → IsSet n ways k (put_in x s)
IsSet-put_in n ways k s x is e = record {
  room = is.room;
  ascends = IsAscending-put_entry x _ (IsAscending-staying_entries s.room x.page s.entries s.entries is.ascends);
  remainder = λ w ne.
      let other : w ≢ x.page = λ same. ne (ap (λ u. u % n) same ∙ e) in
      let old = is.remainder w ne in
      grind (arith, other_pages_at-put x s.room s.entries s.entries w other);
}

-- a set without page v
abbrev pub drop_in : ℕ → FullyAssociative → FullyAssociative
drop_in v s = record s { entries = entries_without v s.entries }

-- and so does a drop
pub IsSet-drop : (n ways k : ℕ) (s : FullyAssociative) (v : ℕ) → IsSet n ways k s → IsSet n ways k (drop_in v s)
IsSet-drop n ways k s v is = record {
  room = is.room;
  ascends = IsAscending-entries_without v s.entries is.ascends;
  remainder = λ w ne. let old = is.remainder w ne in grind (arith, nat_tests, entry_at-entries_without w v s.entries);
}

-- the least page of some entries in order has an entry there
least_page_known : (xs : List CachedPage) → IsAscending xs → 1 ≤ length xs → IsSome (entry_at (least_page xs) xs)
least_page_known [] a l = absurd (omega arith)
least_page_known (x ∷ xs) a l = rw (least_page_first x xs a) (grind (arith, nat_tests))

-- where a page of the set has the same entry in two lists, it has it too in what stays of them
staying_same : (ways v w : ℕ) (es xs : List CachedPage) → entry_at w xs ≡ entry_at w es → entry_at w (staying_entries ways v es xs) ≡ entry_at w (staying_entries ways v es es)
staying_same ways v w es xs same = elim (is_some (entry_at v es) || ltb (length es) ways) as (λ b. entry_at w (cond b xs (entries_without (least_page es) xs)) ≡ entry_at w (cond b es (entries_without (least_page es) es))) [
  | true ↦ same
  | false ↦ rw (entry_at-entries_without w (least_page es) xs, entry_at-entries_without w (least_page es) es, same) refl
]

-- a page that has no entry in the set keeps what it has
staying_other : (ways v w : ℕ) (es xs : List CachedPage) → IsAscending es → 1 ≤ ways → entry_at w es ≡ None → entry_at w (staying_entries ways v es xs) ≡ entry_at w xs
staying_other ways v w es xs a some none = elim (leb_tells (suc (length es)) ways) [
  | inl room ↦ rw (staying_entries_room ways v es xs room.1) refl
  | inr full ↦
      let known = least_page_known es a (omega (arith, full.1)) in
      let other : w ≢ least_page es = λ e. grind (arith, known, ap (λ u. entry_at u es) e) in
      elim (is_some (entry_at v es) || ltb (length es) ways) as (λ b. entry_at w (cond b xs (entries_without (least_page es) xs)) ≡ entry_at w xs) [
        | true ↦ refl
        | false ↦ grind (arith, nat_tests, entry_at-entries_without w (least_page es) xs)
      ]
]

-- the set of a page is one of the sets
own_set : (ss : List FullyAssociative) → AreSets ss → (v : ℕ) (d : FullyAssociative) → IsSet (length ss) (ways_of ss) (v % length ss) (set_at ss v d)
own_set ss h v d = h.each (v % length ss) d (omega (arith, h.some_set))

-- all sets after a put into the page's set, look-up by look-up
put_lookup : (ss : List FullyAssociative) → AreSets ss → (x : CachedPage) (d : FullyAssociative) (w : ℕ) → entry_at w (entries_of_sets (set ss (x.page % length ss) (put_in x (set_at ss x.page d)))) ≡ entry_at w (put_entry x (staying_entries (ways_of ss) x.page (set_at ss x.page d).entries (entries_of_sets ss)))
put_lookup ss h x d w =
    let i = x.page % length ss in
    let s = set_at ss x.page d in
    let xs = entries_of_sets ss in
    let is = own_set ss h x.page d in
    let within : i < length ss = omega (arith, h.some_set) in
    let after = entry_at-entries_of_sets-set ss i (put_in x s) h within (IsSet-put_in (length ss) (ways_of ss) i s x is refl) w in
    elim (eqb_tells (w % length ss) i) [
      | inl t ↦
          let same : entry_at w xs ≡ entry_at w s.entries = entry_at-entries_of_sets ss h w i d t.1 in
          let stay = staying_same (ways_of ss) x.page w s.entries xs same in
          after ∙ rw (t.0, is.room, entry_at-put_entry w x (staying_entries (ways_of ss) x.page s.entries s.entries), entry_at-put_entry w x (staying_entries (ways_of ss) x.page s.entries xs), stay) refl
      | inr t ↦
          let other : w ≢ x.page = λ e. t.1 (ap (λ u. u % length ss) e) in
          let stay = staying_other (ways_of ss) x.page w s.entries xs is.ascends h.some_way (is.remainder w t.1) in
          after ∙ rw t.0 (grind (arith, nat_tests, entry_at-put_entry w x (staying_entries (ways_of ss) x.page s.entries xs), stay))
    ]

-- all sets after a put into the page's set
pub entries_of_sets-put : (ss : List FullyAssociative) → AreSets ss → (x : CachedPage) (d : FullyAssociative) → entries_of_sets (set ss (x.page % length ss) (put_in x (set_at ss x.page d))) ≡ put_entry x (staying_entries (ways_of ss) x.page (entries_of_set (length ss) x.page (entries_of_sets ss)) (entries_of_sets ss))
entries_of_sets-put ss h x d =
    let es = (set_at ss x.page d).entries in
    let xs = entries_of_sets ss in
    rw (entries_of_set-entries_of_sets ss h x.page d) (same_entries _ _ (IsAscending-entries_of_sets (set ss (x.page % length ss) (put_in x (set_at ss x.page d)))) (IsAscending-put_entry x (staying_entries (ways_of ss) x.page es xs) (IsAscending-staying_entries (ways_of ss) x.page es xs (IsAscending-entries_of_sets ss))) (put_lookup ss h x d))

drop_lookup : (ss : List FullyAssociative) → AreSets ss → (v : ℕ) (d : FullyAssociative) (w : ℕ) → entry_at w (entries_of_sets (set ss (v % length ss) (drop_in v (set_at ss v d)))) ≡ entry_at w (entries_without v (entries_of_sets ss))
drop_lookup ss h v d w =
    let i = v % length ss in
    let s = set_at ss v d in
    let xs = entries_of_sets ss in
    let within : i < length ss = omega (arith, h.some_set) in
    let after = entry_at-entries_of_sets-set ss i (drop_in v s) h within (IsSet-drop (length ss) (ways_of ss) i s v (own_set ss h v d)) w in
    elim (eqb_tells (w % length ss) i) [
      | inl t ↦
          let same : entry_at w xs ≡ entry_at w s.entries = entry_at-entries_of_sets ss h w i d t.1 in
          after ∙ rw (t.0, entry_at-entries_without w v s.entries, entry_at-entries_without w v xs, same) refl
      | inr t ↦
          let other : w ≢ v = λ e. t.1 (ap (λ u. u % length ss) e) in
          after ∙ rw t.0 (grind (arith, nat_tests, entry_at-entries_without w v xs))
    ]

-- all sets after a drop in the page's set
pub entries_of_sets-drop : (ss : List FullyAssociative) → AreSets ss → (v : ℕ) (d : FullyAssociative) → entries_of_sets (set ss (v % length ss) (drop_in v (set_at ss v d))) ≡ entries_without v (entries_of_sets ss)
entries_of_sets-drop ss h v d = same_entries _ _ (IsAscending-entries_of_sets (set ss (v % length ss) (drop_in v (set_at ss v d)))) (IsAscending-entries_without v (entries_of_sets ss) (IsAscending-entries_of_sets ss)) (drop_lookup ss h v d)

-- both leave sets of as many ways
pub AreSets-put : (ss : List FullyAssociative) → AreSets ss → (x : CachedPage) (d : FullyAssociative) → AreSets (set ss (x.page % length ss) (put_in x (set_at ss x.page d)))
AreSets-put ss h x d = AreSets-set ss _ _ h (omega (arith, h.some_set)) (IsSet-put_in _ _ _ _ x (own_set ss h x.page d) refl)

pub AreSets-drop : (ss : List FullyAssociative) → AreSets ss → (v : ℕ) (d : FullyAssociative) → AreSets (set ss (v % length ss) (drop_in v (set_at ss v d)))
AreSets-drop ss h v d = AreSets-set ss _ _ h (omega (arith, h.some_set)) (IsSet-drop _ _ _ _ v (own_set ss h v d))

ways_of-put : (ss : List FullyAssociative) (x : CachedPage) (d : FullyAssociative) → ways_of (set ss (x.page % length ss) (put_in x (set_at ss x.page d))) ≡ ways_of ss
ways_of-put ss x d = ways_of-set ss _ _ (λ e l. ap (λ (s : FullyAssociative). s.room) (get_or_default ss (x.page % length ss) d e l))

ways_of-drop : (ss : List FullyAssociative) (v : ℕ) (d : FullyAssociative) → ways_of (set ss (v % length ss) (drop_in v (set_at ss v d))) ≡ ways_of ss
ways_of-drop ss v d = ways_of-set ss _ _ (λ e l. ap (λ (s : FullyAssociative). s.room) (get_or_default ss (v % length ss) d e l))

-- what contracts see of a list of sets
abbrev pub view_of : List FullyAssociative → SetAssociative
view_of ss = record { sets = length ss; ways = ways_of ss; entries = entries_of_sets ss }

pub view-put : (ss : List FullyAssociative) → AreSets ss → (x : CachedPage) (d : FullyAssociative) → view_of (set ss (x.page % length ss) (put_in x (set_at ss x.page d))) ≡ put_in_set x (view_of ss)
view-put ss h x d = λ i. record { sets = length-set ss (x.page % length ss) (put_in x (set_at ss x.page d)) i; ways = ways_of-put ss x d i; entries = entries_of_sets-put ss h x d i }

pub view-drop : (ss : List FullyAssociative) → AreSets ss → (v : ℕ) (d : FullyAssociative) → view_of (set ss (v % length ss) (drop_in v (set_at ss v d))) ≡ record (view_of ss) { entries = entries_without v (entries_of_sets ss) }
view-drop ss h v d = λ i. record { sets = length-set ss (v % length ss) (drop_in v (set_at ss v d)) i; ways = ways_of-drop ss v d i; entries = entries_of_sets-drop ss h v d i }
