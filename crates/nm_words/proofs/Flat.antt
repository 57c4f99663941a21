-- That the list of all words is read and written at the place of a name as the words are by the name.
use Rattle.std.proofs.Common.{◌≡◌, ℕ, zero, suc, ◌+◌, ◌-◌, ◌<◌, ◌≤◌, List, [], ◌∷◌, ◌++◌, length, map, take, get_or, set, sum, refl, sym, ap, ◌∙◌, inl, inr, arith}
use Rattle.std.specs.Prelude.{sum_by}
use Rattle.std.specs.List.{flat_map}
use Rattle.std.proofs.lemmas.Bool.{cases_lt}
use Rattle.std.proofs.lemmas.List.{take-map, take-take, set-append_left, set-append_right, length-append}
use Rattle.std.proofs.lemmas.List.Sums.{sum-map, sum_by_more, sum_by-take-le}
use Rattle.std.proofs.lemmas.List.Concat.{length-flat_map, get_or-flat_map, flat_map-cons}
use Rattle.nm_base.specs.Geometry.{Geometry}
use Rattle.nm_words.specs.declared.names.Where.{Where}
use Rattle.nm_words.specs.declared.names.Where.TheVariants.{Req, Pte, Stamp, Home, Shadow, Lock, Mark, Ack, Turn, Free, Mem}
use Rattle.nm_words.specs.Names.{IsPlace}
use Rattle.nm_words.specs.Words.{Words, word_at, with_word, HasSizes}
use Rattle.nm_words.specs.Flat.{groups_of, sizes_of, flat, group_of, offset_of, at}
use Rattle.nm_words.proofs.Places.{free_place-lt, mem_place-lt, free-same, mem-same}
use Rattle.nm_words.proofs.Groups.{ap2}

-- the groups have their sizes
lengths : (g : Geometry) (w : Words) → HasSizes g w → map (λ group. length group) (groups_of w) ≡ sizes_of g
lengths g w h = rw (h.pte, h.stamp, h.home, h.shadow, h.lock, h.mark, h.ack, h.turn, h.free, h.mem) refl

-- the words before a group
length-before : (g : Geometry) (w : Words) (k : ℕ) → HasSizes g w → length (flat_map (λ group. group) (take k (groups_of w))) ≡ sum (take k (sizes_of g))
length-before g w k h =
    length-flat_map (λ group. group) (take k (groups_of w)) ∙ sym (sum-map (λ group. length group) (take k (groups_of w))) ∙ ap sum (sym (take-map (λ group. length group) k (groups_of w)) ∙ ap (take k) (lengths g w h))

-- a word lies in its group
offset-lt : (g : Geometry) (c : Where) → IsPlace g c → offset_of g c < get_or (sizes_of g) (group_of c) 0
offset-lt g Req h = omega arith
offset-lt g (Pte v) h = h
offset-lt g (Stamp v) h = h
offset-lt g (Home b) h = h
offset-lt g (Shadow m) h = h
offset-lt g (Lock b) h = h
offset-lt g (Mark b) h = h
offset-lt g (Ack p) h = h
offset-lt g (Turn t) h = h
offset-lt g (Free t k) h = free_place-lt g t k h.0 h.1
offset-lt g (Mem f i) h = mem_place-lt g f i h.0 h.1

group-lt : (c : Where) → group_of c < 11
group-lt Req = omega arith
group-lt (Pte v) = omega arith
group-lt (Stamp v) = omega arith
group-lt (Home b) = omega arith
group-lt (Shadow m) = omega arith
group-lt (Lock b) = omega arith
group-lt (Mark b) = omega arith
group-lt (Ack p) = omega arith
group-lt (Turn t) = omega arith
group-lt (Free t k) = omega arith
group-lt (Mem f i) = omega arith

-- the word of a name in its group
group-at : (g : Geometry) (w : Words) (c : Where) → get_or (get_or (groups_of w) (group_of c) []) (offset_of g c) 0 ≡ word_at g w c
group-at g w Req = refl
group-at g w (Pte v) = refl
group-at g w (Stamp v) = refl
group-at g w (Home b) = refl
group-at g w (Shadow m) = refl
group-at g w (Lock b) = refl
group-at g w (Mark b) = refl
group-at g w (Ack p) = refl
group-at g w (Turn t) = refl
group-at g w (Free t k) = refl
group-at g w (Mem f i) = refl

group-size : (g : Geometry) (w : Words) (c : Where) → HasSizes g w → length (get_or (groups_of w) (group_of c) []) ≡ get_or (sizes_of g) (group_of c) 0
group-size g w Req h = refl
group-size g w (Pte v) h = h.pte
group-size g w (Stamp v) h = h.stamp
group-size g w (Home b) h = h.home
group-size g w (Shadow m) h = h.shadow
group-size g w (Lock b) h = h.lock
group-size g w (Mark b) h = h.mark
group-size g w (Ack p) h = h.ack
group-size g w (Turn t) h = h.turn
group-size g w (Free t k) h = h.free
group-size g w (Mem f i) h = h.mem

-- the list of all words has the word of a name at its place
pub flat-at : (g : Geometry) (w : Words) (c : Where) → HasSizes g w → IsPlace g c → get_or (flat w) (at g c) 0 ≡ word_at g w c
flat-at g w c h place =
    let k : ℕ = group_of c in
    let i : ℕ = offset_of g c in
    let within : i < length (get_or (groups_of w) k []) = omega (arith, offset-lt g c place, group-size g w c h) in
    let here : length (flat_map (λ group. group) (take k (groups_of w))) + i ≡ at g c = omega (arith, length-before g w k h) in
    ap (λ n. get_or (flat w) n 0) (sym here) ∙ get_or-flat_map (λ group. group) (groups_of w) k i [] 0 (group-lt c) within ∙ group-at g w c

-- a write in one of joined lists is one in the whole
set-flat_map : (xss : List (List ℕ)) (k i y : ℕ) → k < length xss → i < length (get_or xss k []) → flat_map (λ xs. xs) (set xss k (set (get_or xss k []) i y)) ≡ set (flat_map (λ xs. xs) xss) (length (flat_map (λ xs. xs) (take k xss)) + i) y
set-flat_map [] k i y lt within = absurd (omega arith)
set-flat_map (xs ∷ xss) zero i y lt within =
    let at : 0 + i ≡ i = omega arith in
    flat_map-cons (λ xs. xs) (set xs i y) xss ∙ sym (set-append_left xs (flat_map (λ xs. xs) xss) i y within) ∙ ap (λ ys. set ys i y) (sym (flat_map-cons (λ xs. xs) xs xss)) ∙ ap (λ n. set (flat_map (λ xs. xs) (xs ∷ xss)) n y) (sym at)
set-flat_map (xs ∷ xss) (suc k) i y lt within =
    let n : ℕ = length (flat_map (λ xs. xs) (take k xss)) + i in
    let front : length (flat_map (λ xs. xs) (take (suc k) (xs ∷ xss))) ≡ length xs + length (flat_map (λ xs. xs) (take k xss)) = ap length (flat_map-cons (λ xs. xs) xs (take k xss)) ∙ length-append xs (flat_map (λ xs. xs) (take k xss)) in
    let at : length xs + n ≡ length (flat_map (λ xs. xs) (take (suc k) (xs ∷ xss))) + i = omega (arith, front) in
    let past : length xs + n - length xs ≡ n = omega arith in
    let over : length xs ≤ length xs + n = omega arith in
    flat_map-cons (λ xs. xs) xs (set xss k (set (get_or xss k []) i y)) ∙ ap (λ ys. xs ++ ys) (set-flat_map xss k i y (omega arith) within) ∙ ap (λ m. xs ++ set (flat_map (λ xs. xs) xss) m y) (sym past) ∙ sym (set-append_right xs (flat_map (λ xs. xs) xss) (length xs) (length xs + n) y refl over) ∙ ap (λ ys. set ys (length xs + n) y) (sym (flat_map-cons (λ xs. xs) xs xss)) ∙ ap (λ m. set (flat_map (λ xs. xs) (xs ∷ xss)) m y) at

-- the groups after a write
groups-with : (g : Geometry) (w : Words) (c : Where) (x : ℕ) → groups_of (with_word g w c x) ≡ set (groups_of w) (group_of c) (set (get_or (groups_of w) (group_of c) []) (offset_of g c) x)
groups-with g w Req x = refl
groups-with g w (Pte v) x = refl
groups-with g w (Stamp v) x = refl
groups-with g w (Home b) x = refl
groups-with g w (Shadow m) x = refl
groups-with g w (Lock b) x = refl
groups-with g w (Mark b) x = refl
groups-with g w (Ack p) x = refl
groups-with g w (Turn t) x = refl
groups-with g w (Free t k) x = refl
groups-with g w (Mem f i) x = refl

-- a write by name is one at its place among all words
pub flat-with : (g : Geometry) (w : Words) (c : Where) (x : ℕ) → HasSizes g w → IsPlace g c → flat (with_word g w c x) ≡ set (flat w) (at g c) x
flat-with g w c x h place =
    let k : ℕ = group_of c in
    let i : ℕ = offset_of g c in
    let within : i < length (get_or (groups_of w) k []) = omega (arith, offset-lt g c place, group-size g w c h) in
    let here : length (flat_map (λ group. group) (take k (groups_of w))) + i ≡ at g c = omega (arith, length-before g w k h) in
    ap (λ gs. flat_map (λ group. group) gs) (groups-with g w c x) ∙ set-flat_map (groups_of w) k i x (group-lt c) within ∙ ap (λ n. set (flat w) n x) here

-- an earlier group ends before a later one begins
before-le : (xs : List ℕ) (t u : ℕ) → t < u → t < length xs → sum (take t xs) + get_or xs t 0 ≤ sum (take u xs)
before-le xs t u lt within =
    let le : t + 1 ≤ u = omega arith in
    let front : sum_by (λ n. n) (take (t + 1) (take u xs)) ≤ sum_by (λ n. n) (take u xs) = sum_by-take-le (λ n. n) (take u xs) (t + 1) in
    omega (arith, sum_by_more (λ n. n) xs t 0 within, rw (take-take (t + 1) u xs le) at front)

-- names with one place in one group are one name
same-group : (g : Geometry) (c d : Where) → IsPlace g c → IsPlace g d → group_of c ≡ group_of d → offset_of g c ≡ offset_of g d → c ≡ d
same-group g Req Req p q e o = refl
same-group g (Pte v) (Pte u) p q e o = ap Pte o
same-group g (Stamp v) (Stamp u) p q e o = ap Stamp o
same-group g (Home v) (Home u) p q e o = ap Home o
same-group g (Shadow v) (Shadow u) p q e o = ap Shadow o
same-group g (Lock v) (Lock u) p q e o = ap Lock o
same-group g (Mark v) (Mark u) p q e o = ap Mark o
same-group g (Ack v) (Ack u) p q e o = ap Ack o
same-group g (Turn v) (Turn u) p q e o = ap Turn o
same-group g (Free t k) (Free u j) p q e o = let same = free-same g t k u j p.0 q.0 p.1 q.1 o in ap2 Free same.0 same.1
same-group g (Mem f i) (Mem m j) p q e o = let same = mem-same g f i m j p.1 q.1 o in ap2 Mem same.0 same.1
same-group g c d p q e o = absurd (omega (arith, e))

-- no two words have one place
pub at-injective : (g : Geometry) (c d : Where) → IsPlace g c → IsPlace g d → at g c ≡ at g d → c ≡ d
at-injective g c d p q same =
    elim (cases_lt (group_of c) (group_of d)) [
      | inl below ↦ absurd (omega (arith, before-le (sizes_of g) (group_of c) (group_of d) below (group-lt c), offset-lt g c p))
      | inr above ↦ elim (cases_lt (group_of d) (group_of c)) [
        | inl below ↦ absurd (omega (arith, before-le (sizes_of g) (group_of d) (group_of c) below (group-lt d), offset-lt g d q))
        | inr beside ↦
            let e : group_of c ≡ group_of d = omega arith in
            let before : sum (take (group_of c) (sizes_of g)) ≡ sum (take (group_of d) (sizes_of g)) = ap (λ k. sum (take k (sizes_of g))) e in
            same-group g c d p q e (omega (arith, before))
      ]
    ]
