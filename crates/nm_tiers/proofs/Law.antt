-- The list of quotients ascends strictly, and has each quotient of the nodes and no other number.
use Rattle.std.proofs.Common.{◌≡◌, ℕ, zero, suc, ◌+◌, ◌<◌, ◌≤◌, ◌==◌, nat_lt, ◌⊎◌, ◌↔◌, Bool, true, false, List, [], ◌∷◌, length, get_or, map, Contains, Result, Ok, Err, IfOk, refl, sym, ap, ◌∙◌, inl, inr, arith, add-one}
use Rattle.std.specs.Bool.{if◌then◌else◌}
use Rattle.std.proofs.lemmas.Bool.{eqb-true}
use Rattle.std.proofs.lemmas.List.{length-map}
use Rattle.nm_tiers.specs.declared.nodes.Node.{Node}
use Rattle.nm_tiers.specs.Tiers.{with_number, ascending, quotient_of, quotients_of, frames_at, tiers_of, tier_count, AreQuotients}
use Rattle.nm_tiers.proofs.Quotients.{Ascends, Ascends-ascending}

Ascends-next : (a : ℕ) (xs : List ℕ) (k : ℕ) → Ascends a xs → suc k < length xs → get_or xs k 0 < get_or xs (suc k) 0
Ascends-next a [] k h l = absurd (omega (arith, l))
Ascends-next a (x ∷ []) k h l = absurd (omega (arith, l))
Ascends-next a (x ∷ y ∷ ys) zero h l = omega (arith, h.1.0)
Ascends-next a (x ∷ y ∷ ys) (suc k) h l = Ascends-next (x + 1) (y ∷ ys) k h.1 (omega (arith, l))

-- u is one of the numbers
abbrev pub Among : ℕ → List ℕ → Type 0
Among u [] = ⊥
Among u (x ∷ xs) = (x ≡ u) ⊎ Among u xs

Among-at : (xs : List ℕ) (u k : ℕ) → k < length xs → get_or xs k u ≡ u → Among u xs
Among-at [] u k h e = absurd (omega (arith, h))
Among-at (x ∷ xs) u zero h e = inl e
Among-at (x ∷ xs) u (suc k) h e = inr (Among-at xs u k (omega (arith, h)) e)

Contains-among : (xs : List ℕ) (u : ℕ) → Among u xs → Contains xs u
Contains-among [] u h = absurd h
Contains-among (x ∷ xs) u h =
    elim h [
      | inl e ↦ (0, omega arith, e)
      | inr r ↦ let c : Contains xs u = Contains-among xs u r in (suc c.0, omega (arith, c.1), c.2)
    ]

Among-cases : (u q x : ℕ) (xs : List ℕ) (less same : Bool) → (q == x) ≡ same → (Among u (with_number q xs) ↔ ((q ≡ u) ⊎ Among u xs)) → Among u (if less then q ∷ x ∷ xs else if same then x ∷ xs else x ∷ with_number q xs) ↔ ((q ≡ u) ⊎ Among u (x ∷ xs))
Among-cases u q x xs true same f rest = (λ h. h, λ h. h)
Among-cases u q x xs false true f rest = (
  λ h. inr h,
  λ h. elim h [ inl e ↦ inl (sym (eqb-true q x f) ∙ e) | inr r ↦ r ],
)
Among-cases u q x xs false false f rest = (
  λ h. elim h [ inl e ↦ inr (inl e) | inr r ↦ elim (rest.0 r) [ inl a ↦ inl a | inr b ↦ inr (inr b) ] ],
  λ h. elim h [ inl e ↦ inr (rest.1 (inl e)) | inr r ↦ elim r [ inl a ↦ inl a | inr b ↦ inr (rest.1 (inr b)) ] ],
)

Among-with_number : (u q : ℕ) (xs : List ℕ) → Among u (with_number q xs) ↔ ((q ≡ u) ⊎ Among u xs)
Among-with_number u q [] = (λ h. h, λ h. h)
Among-with_number u q (x ∷ xs) = Among-cases u q x xs (nat_lt q x) (q == x) refl (Among-with_number u q xs)

Among-ascending : (u : ℕ) (xs : List ℕ) → Among u (ascending xs) ↔ Among u xs
Among-ascending u [] = (λ h. h, λ h. h)
Among-ascending u (x ∷ xs) =
    let both = Among-with_number u x (ascending xs) in
    let rest = Among-ascending u xs in (
      λ h. elim (both.0 h) [ inl e ↦ inl e | inr r ↦ inr (rest.0 r) ],
      λ h. both.1 (elim h [ inl e ↦ inl e | inr r ↦ inr (rest.1 r) ]),
    )

pub Among-ascending_from : (u : ℕ) (xs : List ℕ) → Among u xs → Among u (ascending xs)
Among-ascending_from u xs h = (Among-ascending u xs).1 h

Contains-ascending : (u : ℕ) (xs : List ℕ) → Contains (ascending xs) u ↔ Contains xs u
Contains-ascending u xs = (
  λ c. Contains-among xs u ((Among-ascending u xs).0 (Among-at (ascending xs) u c.0 c.1 c.2)),
  λ c. Contains-among (ascending xs) u ((Among-ascending u xs).1 (Among-at xs u c.0 c.1 c.2)),
)

-- the list of quotients is what it is said to be
pub AreQuotients-quotients_of : (nodes : List Node) → AreQuotients nodes (quotients_of nodes)
AreQuotients-quotients_of nodes = record {
  ascending = λ k l. rw add-one (Ascends-next 0 (quotients_of nodes) k (Ascends-ascending (map quotient_of nodes)) (rw add-one at l));
  exact = λ q. Contains-ascending q (map quotient_of nodes);
}

length-cases : (q x : ℕ) (xs : List ℕ) (less same : Bool) → 1 ≤ length (if less then q ∷ x ∷ xs else if same then x ∷ xs else x ∷ with_number q xs)
length-cases q x xs true same = omega arith
length-cases q x xs false true = omega arith
length-cases q x xs false false = omega arith

length-with_number : (q : ℕ) (xs : List ℕ) → 1 ≤ length (with_number q xs)
length-with_number q [] = omega arith
length-with_number q (x ∷ xs) = length-cases q x xs (nat_lt q x) (q == x)

-- where there is a node, there is a tier
pub tier_count-pos : (nodes : List Node) → 0 < length nodes → 1 ≤ tier_count nodes
tier_count-pos [] h = absurd (omega (arith, h))
tier_count-pos (node ∷ nodes) h = length-with_number (quotient_of node) (quotients_of nodes)

-- the number of tiers, behind a result
pub IfOk-count : {V E : Type 0} (items : V → List ℕ) (nodes : List Node) (r : Result V E) → IfOk r (λ v. items v ≡ tiers_of nodes) → 1 ≤ tier_count nodes → tier_count nodes ≤ 4 → IfOk r (λ v. (1 ≤ length (items v)) × (length (items v) ≤ 4))
IfOk-count items nodes (Ok v) e some few =
    let same = ap length e ∙ length-map (quotients_of nodes) (frames_at nodes) in
    (omega arith, omega arith)
IfOk-count items nodes (Err x) e some few = tt
