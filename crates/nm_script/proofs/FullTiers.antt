-- Each tier that nodes form has frames.
use Rattle.std.proofs.Common.{◌≡◌, ℕ, ◌+◌, ◌≤◌, ◌==◌, nat_lt, ◌⊎◌, Bool, true, false, List, [], ◌∷◌, map, refl, sym, subst, inl, inr, arith}
use Rattle.std.specs.Bool.{if◌then◌else◌}
use Rattle.std.specs.List.{AllByRecursion, filter}
use Rattle.std.proofs.lemmas.Bool.{eqb-false}
use Rattle.std.proofs.lemmas.List.Sums.{sum_by-cons}
use Rattle.nm_tiers.specs.declared.nodes.Node.{Node}
use Rattle.nm_tiers.specs.Tiers.{with_number, quotient_of, quotients_of, frames_of, frames_at, tiers_of}
use Rattle.nm_script.specs.Script.{IsNode}

-- one node's frames counted in its tier
abbrev more : (ℕ → ℕ) → ℕ → ℕ → ℕ → ℕ
more f a c q = if a == q then c + f q else f q

frames_cons : (n : Node) (ns : List Node) → frames_of (n ∷ ns) ≡ n.frames + frames_of ns
frames_cons n ns = sum_by-cons (λ m. m.frames) n ns

frames_case : (b : Bool) (n : Node) (ns : List Node) (q : ℕ) → frames_of (if b then n ∷ filter (λ m. quotient_of m == q) ns else filter (λ m. quotient_of m == q) ns) ≡ (if b then n.frames + frames_at ns q else frames_at ns q)
frames_case true n ns q = frames_cons n (filter (λ m. quotient_of m == q) ns)
frames_case false n ns q = refl

frames_at-cons : (n : Node) (ns : List Node) (q : ℕ) → frames_at (n ∷ ns) q ≡ more (frames_at ns) (quotient_of n) n.frames q
frames_at-cons n ns q = frames_case (quotient_of n == q) n ns q

at_case : (b : Bool) (n : Node) (ns : List Node) (a : ℕ) → (quotient_of n == a) ≡ b → 1 ≤ n.frames → (quotient_of n ≡ a) ⊎ (1 ≤ frames_at ns a) → 1 ≤ (if b then n.frames + frames_at ns a else frames_at ns a)
at_case true n ns a e some h = omega arith
at_case false n ns a e some h = elim h [ inl q ↦ absurd (eqb-false (quotient_of n) a e q) | inr z ↦ z ]

at-some : (n : Node) (ns : List Node) (a : ℕ) → 1 ≤ n.frames → (quotient_of n ≡ a) ⊎ (1 ≤ frames_at ns a) → 1 ≤ frames_at (n ∷ ns) a
at-some n ns a some h = subst (λ (k : ℕ). 1 ≤ k) (sym (frames_at-cons n ns a)) (at_case (quotient_of n == a) n ns a refl some h)

Every : List Node → List ℕ → Type 0
Every ns qs = AllByRecursion (λ q. 1 ≤ frames_at ns q) qs

Every-more : (n : Node) (ns : List Node) (qs : List ℕ) → 1 ≤ n.frames → Every ns qs → Every (n ∷ ns) qs
unfolding Every
Every-more n ns [] some h = tt
Every-more n ns (q ∷ qs) some h = (at-some n ns q some (inr h.0), Every-more n ns qs some h.1)

Every-case : (ns : List Node) (a x : ℕ) (xs : List ℕ) (less same : Bool) → 1 ≤ frames_at ns a → Every ns (x ∷ xs) → Every ns (with_number a xs) → Every ns (if less then a ∷ x ∷ xs else if same then x ∷ xs else x ∷ with_number a xs)
unfolding Every
Every-case ns a x xs true same here h rest = (here, h)
Every-case ns a x xs false true here h rest = h
Every-case ns a x xs false false here h rest = (h.0, rest)

Every-with : (ns : List Node) (a : ℕ) (xs : List ℕ) → 1 ≤ frames_at ns a → Every ns xs → Every ns (with_number a xs)
unfolding Every
Every-with ns a [] here h = (here, tt)
Every-with ns a (x ∷ xs) here h = Every-case ns a x xs (nat_lt a x) (a == x) here h (Every-with ns a xs here h.1)

Every-quotients : (ns : List Node) → AllByRecursion IsNode ns → Every ns (quotients_of ns)
unfolding Every
Every-quotients [] h = tt
Every-quotients (n ∷ ns) h =
    Every-with (n ∷ ns) (quotient_of n) (quotients_of ns) (at-some n ns (quotient_of n) h.0.1 (inl refl)) (Every-more n ns (quotients_of ns) h.0.1 (Every-quotients ns h.1))

mapped_all : (ns : List Node) (qs : List ℕ) → Every ns qs → AllByRecursion (λ n. 1 ≤ n) (map (frames_at ns) qs)
unfolding Every
mapped_all ns [] h = tt
mapped_all ns (q ∷ qs) h = (h.0, mapped_all ns qs h.1)

-- each tier of nodes has a frame
pub tiers_some : (ns : List Node) → AllByRecursion IsNode ns → AllByRecursion (λ n. 1 ≤ n) (tiers_of ns)
tiers_some ns h = mapped_all ns (quotients_of ns) (Every-quotients ns h)
