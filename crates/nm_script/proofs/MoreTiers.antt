-- More nodes form no fewer tiers.
use Rattle.std.proofs.Common.{◌≡◌, ℕ, ◌<◌, ◌≤◌, ◌==◌, nat_lt, Bool, true, false, List, [], ◌∷◌, ◌++◌, length, map, refl, sym, ap, ◌∙◌, subst, inl, inr, append_assoc, arith}
use Rattle.std.specs.Bool.{if◌then◌else◌}
use Rattle.std.proofs.lemmas.Bool.{cases_lt, cases_eq}
use Rattle.std.proofs.lemmas.List.{append-nil, map-append}
use Rattle.nm_tiers.specs.declared.nodes.Node.{Node}
use Rattle.nm_tiers.specs.Tiers.{with_number, ascending, quotient_of, tier_count}

-- two numbers may be put in in either order
swapped : (x y : ℕ) (l : List ℕ) → x < y → with_number x (with_number y l) ≡ with_number y (with_number x l)
swapped x y [] h = grind arith
swapped x y (z ∷ l) h = grind (arith, swapped x y l h)

swap : (x y : ℕ) (l : List ℕ) → with_number x (with_number y l) ≡ with_number y (with_number x l)
swap x y l =
    elim (cases_lt x y) [
      | inl less ↦ swapped x y l less
      | inr more ↦ elim (cases_eq x y) [
        | inl e ↦ subst (λ (k : ℕ). with_number x (with_number k l) ≡ with_number k (with_number x l)) e refl
        | inr other ↦ sym (swapped y x l (omega (arith, more, other)))
      ]
    ]

ascending-more : (xs : List ℕ) (y : ℕ) → ascending (xs ++ y ∷ []) ≡ with_number y (ascending xs)
ascending-more [] y = refl
ascending-more (x ∷ xs) y = ap (with_number x) (ascending-more xs y) ∙ swap x y (ascending xs)

longer_case : (less same : Bool) (y x : ℕ) (xs : List ℕ) → length xs ≤ length (with_number y xs) → length (x ∷ xs) ≤ length (if less then y ∷ x ∷ xs else if same then x ∷ xs else x ∷ with_number y xs)
longer_case true same y x xs h = omega arith
longer_case false true y x xs h = omega arith
longer_case false false y x xs h = omega arith

longer : (y : ℕ) (xs : List ℕ) → length xs ≤ length (with_number y xs)
longer y [] = omega arith
longer y (x ∷ xs) = longer_case (nat_lt y x) (y == x) y x xs (longer y xs)

one_more : (nodes : List Node) (n : Node) → tier_count nodes ≤ tier_count (nodes ++ n ∷ [])
one_more nodes n =
    let numbers : ascending (map quotient_of (nodes ++ n ∷ [])) ≡ with_number (quotient_of n) (ascending (map quotient_of nodes)) = ap ascending (map-append quotient_of nodes (n ∷ [])) ∙ ascending-more (map quotient_of nodes) (quotient_of n) in
    omega (arith, longer (quotient_of n) (ascending (map quotient_of nodes)), ap length numbers)

-- the tiers of some nodes are no more than those of these and others
pub tier_count-more : (front rest : List Node) → tier_count front ≤ tier_count (front ++ rest)
tier_count-more front [] = omega (arith, ap tier_count (append-nil front))
tier_count-more front (n ∷ rest) =
    omega (arith, one_more front n, tier_count-more (front ++ n ∷ []) rest, ap tier_count (append_assoc front (n ∷ []) rest))
