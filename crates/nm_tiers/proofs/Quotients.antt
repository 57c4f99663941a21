-- The different quotients of nodes, walked in ascending order.
use Rattle.std.proofs.Common.{◌≡◌, ℕ, ◌+◌, ◌<◌, ◌≤◌, ◌==◌, nat_lt, nat_le, min, Bool, true, false, List, [], ◌∷◌, map, Option, Some, None, refl, sym, ap, ◌∙◌, arith}
use Rattle.std.specs.Bool.{if◌then◌else◌}
use Rattle.std.specs.List.{fold, reduce}
use Rattle.std.proofs.lemmas.Bool.{ltb-true, ltb-false, eqb-true, eqb-false}
use Rattle.nm_tiers.specs.declared.nodes.Node.{Node}
use Rattle.nm_tiers.specs.Tiers.{with_number, ascending, quotient_of, quotients_of, at_least, next_quotient_of}

-- xs ascends strictly, from a on
abbrev pub Ascends : ℕ → List ℕ → Type 0
Ascends a [] = Unit {0}
Ascends a (x ∷ xs) = (a ≤ x) × Ascends (x + 1) xs

Ascends-cases : (a q x : ℕ) (xs : List ℕ) (less same : Bool) → nat_lt q x ≡ less → (q == x) ≡ same → a ≤ q → Ascends a (x ∷ xs) → (x + 1 ≤ q → Ascends (x + 1) (with_number q xs)) → Ascends a (if less then q ∷ x ∷ xs else if same then x ∷ xs else x ∷ with_number q xs)
Ascends-cases a q x xs true same e f low h rest = (low, (omega (arith, ltb-true q x e), h.1))
Ascends-cases a q x xs false true e f low h rest = h
Ascends-cases a q x xs false false e f low h rest = (h.0, rest (omega (arith, ltb-false q x e, eqb-false q x f)))

Ascends-with_number : (a q : ℕ) (xs : List ℕ) → a ≤ q → Ascends a xs → Ascends a (with_number q xs)
Ascends-with_number a q [] low h = (low, tt)
Ascends-with_number a q (x ∷ xs) low h =
    Ascends-cases a q x xs (nat_lt q x) (q == x) refl refl low h (λ over. Ascends-with_number (x + 1) q xs over h.1)

pub Ascends-ascending : (xs : List ℕ) → Ascends 0 (ascending xs)
Ascends-ascending [] = tt
Ascends-ascending (x ∷ xs) = Ascends-with_number 0 x (ascending xs) (omega arith) (Ascends-ascending xs)

-- a list that begins at b or later lies at b or later
at_least-whole : (a b : ℕ) (xs : List ℕ) → b ≤ a → Ascends a xs → at_least b xs ≡ xs
at_least-whole a b [] low h = refl
at_least-whole a b (x ∷ xs) low h = let e = at_least-whole (x + 1) b xs (omega arith) h.1 in grind (arith, e)

pub at_least-start : (xs : List ℕ) → at_least 0 (ascending xs) ≡ ascending xs
at_least-start xs = at_least-whole 0 0 (ascending xs) (omega arith) (Ascends-ascending xs)

first : List ℕ → Option ℕ
first [] = None
first (x ∷ xs) = Some x

-- the lesser of a number and one that may be there
lesser : ℕ → Option ℕ → ℕ
lesser q None = q
lesser q (Some x) = min q x

fold_min-first : (a b : ℕ) (xs : List ℕ) → fold min (min a b) xs ≡ min a (fold min b xs)
fold_min-first a b [] = refl
fold_min-first a b (x ∷ xs) =
    let same : min (min a b) x ≡ min a (min b x) = omega arith in
    ap (λ n. fold min n xs) same ∙ fold_min-first a (min b x) xs

reduce_min-cons : (q : ℕ) (xs : List ℕ) → reduce min (q ∷ xs) ≡ Some (lesser q (reduce min xs))
unfolding lesser
reduce_min-cons q [] = refl
reduce_min-cons q (x ∷ xs) = ap Some (fold_min-first q x xs)

first-cases : (q x : ℕ) (xs : List ℕ) (less same : Bool) → nat_lt q x ≡ less → (q == x) ≡ same → first (if less then q ∷ x ∷ xs else if same then x ∷ xs else x ∷ with_number q xs) ≡ Some (min q x)
unfolding first
first-cases q x xs true same e f = let below : q < x = ltb-true q x e in let n : q ≡ min q x = omega arith in ap Some n
first-cases q x xs false true e f = let is : q ≡ x = eqb-true q x f in let n : x ≡ min q x = omega arith in ap Some n
first-cases q x xs false false e f = let over : x ≤ q = ltb-false q x e in let n : x ≡ min q x = omega arith in ap Some n

first-with_number : (q : ℕ) (xs : List ℕ) → first (with_number q xs) ≡ Some (lesser q (first xs))
unfolding first lesser
first-with_number q [] = refl
first-with_number q (x ∷ xs) = first-cases q x xs (nat_lt q x) (q == x) refl refl

-- the first of the ascending list is the least of the numbers
first-ascending : (xs : List ℕ) → first (ascending xs) ≡ reduce min xs
unfolding first
first-ascending [] = refl
first-ascending (x ∷ xs) =
    first-with_number x (ascending xs) ∙ ap (λ o. Some (lesser x o)) (first-ascending xs) ∙ sym (reduce_min-cons x xs)

kept : ℕ → Bool → List ℕ → List ℕ
kept q true xs = with_number q xs
kept q false xs = xs

at_least-with_number : (a q : ℕ) (xs : List ℕ) → at_least a (with_number q xs) ≡ kept q (nat_le a q) (at_least a xs)
unfolding kept
at_least-with_number a q [] = grind arith
at_least-with_number a q (x ∷ xs) = let e = at_least-with_number a q xs in grind (arith, e)

-- what is left of an ascending list from a on is the ascending list of what is left
at_least-ascending : (a : ℕ) (xs : List ℕ) → at_least a (ascending xs) ≡ ascending (at_least a xs)
unfolding kept
at_least-ascending a [] = refl
at_least-ascending a (x ∷ xs) = let e = at_least-ascending a xs in let f = at_least-with_number a x (ascending xs) in grind (arith, e, f)

first-at_least : (a q : ℕ) (xs : List ℕ) → first (at_least a xs) ≡ Some q → a ≤ q
unfolding first
first-at_least a q [] e = absurd (cc)
first-at_least a q (x ∷ xs) e = let h : first (at_least a xs) ≡ Some q → a ≤ q = first-at_least a q xs in grind (arith, e, h)

at_least-step : (s a q : ℕ) (xs : List ℕ) → Ascends s xs → first (at_least a xs) ≡ Some q → at_least a xs ≡ q ∷ at_least (q + 1) xs
unfolding first
at_least-step s a q [] h e = absurd (cc)
at_least-step s a q (x ∷ xs) h e =
    let low : a ≤ q = first-at_least a q (x ∷ xs) e in
    let rest = at_least-step (x + 1) a q xs h.1 in
    let whole = at_least-whole (x + 1) a xs in
    let later = at_least-whole (x + 1) (x + 1) xs in
    grind (arith, rest, whole, later)

none_first : (xs : List ℕ) → first xs ≡ None → xs ≡ []
unfolding first
none_first [] e = refl
none_first (x ∷ xs) e = absurd (cc)

first-next : (nodes : List Node) (a : ℕ) → first (at_least a (quotients_of nodes)) ≡ next_quotient_of nodes a
first-next nodes a = let xs : List ℕ = map quotient_of nodes in ap first (at_least-ascending a xs) ∙ first-ascending (at_least a xs)

-- the walk over the quotients: the next one is the first of those that are left
pub next-some : (nodes : List Node) (a q : ℕ) → next_quotient_of nodes a ≡ Some q → at_least a (quotients_of nodes) ≡ q ∷ at_least (q + 1) (quotients_of nodes)
next-some nodes a q e = at_least-step 0 a q (quotients_of nodes) (Ascends-ascending (map quotient_of nodes)) (first-next nodes a ∙ e)

-- the next one is not below where the search begins
pub next-le : (nodes : List Node) (a q : ℕ) → next_quotient_of nodes a ≡ Some q → a ≤ q
next-le nodes a q e = first-at_least a q (quotients_of nodes) (first-next nodes a ∙ e)

-- where there is no next one, none is left
pub next-none : (nodes : List Node) (a : ℕ) → next_quotient_of nodes a ≡ None → at_least a (quotients_of nodes) ≡ []
next-none nodes a e = none_first (at_least a (quotients_of nodes)) (first-next nodes a ∙ e)

-- the facts that the walk uses
pub ruleset walk = (at_least-start, next-some, next-none)
