-- What the loops over all sets come to: sets that are made, that are cleared, and the least page of all.
use Rattle.std.proofs.Common.{◌≡◌, ℕ, zero, suc, ◌+◌, ◌<◌, ◌≤◌, min, List, [], ◌∷◌, ◌++◌, length, get_or, take, map, replicate, Option, Some, None, IsSome, MatchOption, refl, sym, ap, ◌∙◌, subst, arith, inl, inr}
use Rattle.std.proofs.lemmas.Bool.{cases_lt}
use Rattle.std.proofs.lemmas.List.{length-replicate, get_or-replicate, length-map, take_more}
use Rattle.nm_xlat.specs.declared.translations.Entry.{Entry}
use Rattle.nm_xlat.specs.Entries.{entry_at}
use Rattle.nm_xlat.specs.Translations.{IsLeastFrom, HasNoneFrom}
use Rattle.nm_xlat.specs.FullyAssociative.{FullyAssociative}
use Rattle.nm_setcache.specs.SetAssociative.{SetAssociative}
use Rattle.nm_setcache.specs.Sets.{entries_of_sets, ways_of, IsSet, AreSets, lesser_of}
use Rattle.nm_setcache.proofs.Merged.{or_else, entry_at-put_all}

-- an empty cache of `ways` of room
abbrev pub empty_set : ℕ → FullyAssociative
empty_set ways = record { room = ways; entries = [] }

entries_of_sets-replicate : (n ways : ℕ) → entries_of_sets (replicate n (empty_set ways)) ≡ []
entries_of_sets-replicate zero ways = refl
entries_of_sets-replicate (suc n) ways = entries_of_sets-replicate n ways

ways_of-replicate : (n ways : ℕ) → 1 ≤ n → ways_of (replicate n (empty_set ways)) ≡ ways
ways_of-replicate zero ways l = absurd (omega arith)
ways_of-replicate (suc n) ways l = refl

IsSet-empty : (n ways k : ℕ) → IsSet n ways k (empty_set ways)
IsSet-empty n ways k = record { room = refl; ascends = tt; remainder = λ w ne. refl }

-- empty sets are sets
pub AreSets-replicate : (n ways : ℕ) → 1 ≤ n → 1 ≤ ways → AreSets (replicate n (empty_set ways))
AreSets-replicate n ways l m =
    let len = length-replicate n (empty_set ways) in
    let all = ways_of-replicate n ways l in
    record {
      some_set = omega (arith, len);
      some_way = omega (arith, all);
      each = λ k d h. rw (len, all, get_or-replicate n k (empty_set ways) d (omega (arith, len))) (IsSet-empty n ways k);
    }

-- what contracts see of empty sets
pub view-replicate : (n ways : ℕ) → 1 ≤ n → ◌≡◌ {A = SetAssociative} (record { sets = length (replicate n (empty_set ways)); ways = ways_of (replicate n (empty_set ways)); entries = entries_of_sets (replicate n (empty_set ways)) }) (record { sets = n; ways = ways; entries = [] })
view-replicate n ways l = λ i. record { sets = length-replicate n (empty_set ways) i; ways = ways_of-replicate n ways l i; entries = entries_of_sets-replicate n ways i }

-- a cache without its entries
abbrev pub cleared : FullyAssociative → FullyAssociative
cleared s = record s { entries = [] }

pub entries_of_sets-cleared : (ss : List FullyAssociative) → entries_of_sets (map cleared ss) ≡ []
entries_of_sets-cleared [] = refl
entries_of_sets-cleared (s ∷ ss) = entries_of_sets-cleared ss

pub ways_of-cleared : (ss : List FullyAssociative) → ways_of (map cleared ss) ≡ ways_of ss
ways_of-cleared [] = refl
ways_of-cleared (s ∷ ss) = refl

get_or-cleared : (ss : List FullyAssociative) (k : ℕ) (d : FullyAssociative) → k < length ss → get_or (map cleared ss) k d ≡ cleared (get_or ss k d)
get_or-cleared [] k d l = absurd (omega arith)
get_or-cleared (s ∷ ss) zero d l = refl
get_or-cleared (s ∷ ss) (suc k) d l = get_or-cleared ss k d (omega arith)

-- sets that are cleared are sets
pub AreSets-cleared : (ss : List FullyAssociative) → AreSets ss → AreSets (map cleared ss)
AreSets-cleared ss h =
    let len = length-map ss cleared in
    let all = ways_of-cleared ss in
    record {
      some_set = omega (arith, len, h.some_set);
      some_way = omega (arith, all, h.some_way);
      each = λ k d l. rw (len, all, get_or-cleared ss k d (omega (arith, len))) (record { room = (h.each k d (omega (arith, len))).room; ascends = tt; remainder = λ w ne. refl });
    }

-- what contracts see of cleared sets
pub view-cleared : (ss : List FullyAssociative) → ◌≡◌ {A = SetAssociative} (record { sets = length (map cleared ss); ways = ways_of (map cleared ss); entries = entries_of_sets (map cleared ss) }) (record { sets = length ss; ways = ways_of ss; entries = [] })
view-cleared ss = λ i. record { sets = length-map ss cleared i; ways = ways_of-cleared ss i; entries = entries_of_sets-cleared ss i }

-- one more set
or_else-assoc : (a b c : Option Entry) → or_else (or_else a b) c ≡ or_else a (or_else b c)
or_else-assoc None b c = refl
or_else-assoc (Some x) b c = refl

entry_at-push : (w : ℕ) (ss : List FullyAssociative) (s : FullyAssociative) → entry_at w (entries_of_sets (ss ++ s ∷ [])) ≡ or_else (entry_at w (entries_of_sets ss)) (entry_at w s.entries)
entry_at-push w [] s = entry_at-put_all w s.entries [] ∙ elim (entry_at w s.entries) as (λ o. or_else o None ≡ o) [ None ↦ refl | Some x ↦ refl ]
entry_at-push w (t ∷ ts) s = rw (entry_at-put_all w t.entries (entries_of_sets (ts ++ s ∷ [])), entry_at-put_all w t.entries (entries_of_sets ts), entry_at-push w ts s) (sym (or_else-assoc (entry_at w t.entries) (entry_at w (entries_of_sets ts)) (entry_at w s.entries)))

-- o is the least page from `from` on that has an entry, if one has
abbrev pub IsNext : (ℕ → Option Entry) → ℕ → Option ℕ → Type 0
IsNext entry from o = MatchOption o (HasNoneFrom entry from) (IsLeastFrom entry from)

some_or_else : (a b : Option Entry) → IsSome a → IsSome (or_else a b)
some_or_else None b h = absurd (grind arith)
some_or_else (Some x) b h = h

-- the lesser of the least pages of two is the least of both
next_of_both : (f g : ℕ → Option Entry) (from : ℕ) (a b : Option ℕ) → IsNext f from a → IsNext g from b → IsNext (λ w. or_else (f w) (g w)) from (lesser_of a b)
next_of_both f g from None None p q = λ w l. rw (p w l, q w l) refl
next_of_both f g from None (Some y) p q = record { within = q.within; cached = rw (p y q.within) q.cached; least = λ w l b. rw (p w l, q.least w l b) refl }
next_of_both f g from (Some x) None p q = record { within = p.within; cached = some_or_else (f x) (g x) p.cached; least = λ w l b. rw (p.least w l b, q w l) refl }
next_of_both f g from (Some x) (Some y) p q = elim (cases_lt y x) [
  | inl below ↦
      let is : min x y ≡ y = omega arith in
      rw is (record { within = q.within; cached = rw (p.least y q.within below) q.cached; least = λ w l b. rw (p.least w l (omega arith), q.least w l b) refl })
  | inr above ↦
      let is : min x y ≡ x = omega arith in
      rw is (record { within = p.within; cached = some_or_else (f x) (g x) p.cached; least = λ w l b. rw (p.least w l b, q.least w l (omega arith)) refl })
]

-- with one more set, the least page is the lesser of both
pub next_more : (ss : List FullyAssociative) (i from : ℕ) (s : FullyAssociative) (a b : Option ℕ) → i < length ss → s ≡ get_or ss i s → IsNext (λ w. entry_at w (entries_of_sets (take i ss))) from a → IsNext (λ w. entry_at w s.entries) from b → IsNext (λ w. entry_at w (entries_of_sets (take (i + 1) ss))) from (lesser_of a b)
next_more ss i from s a b l read p q =
    let more : take (i + 1) ss ≡ take i ss ++ s ∷ [] = take_more ss i s l ∙ ap (λ t. take i ss ++ t ∷ []) (sym read) in
    let P : (ℕ → Option Entry) → Type 0 = λ f. IsNext f from (lesser_of a b) in
    let both = next_of_both (λ w. entry_at w (entries_of_sets (take i ss))) (λ w. entry_at w s.entries) from a b p q in
    subst P (λ j w. (sym (ap (λ ts. entry_at w (entries_of_sets ts)) more ∙ entry_at-push w (take i ss) s)) j) both
