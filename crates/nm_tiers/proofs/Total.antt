-- The frames of the tiers are those of the nodes: each node is counted at its quotient, and nowhere else.
use Rattle.std.proofs.Common.{◌≡◌, ℕ, ◌+◌, ◌<◌, ◌==◌, Bool, true, false, List, [], ◌∷◌, map, filter, sum, sum_by, Result, Ok, Err, IfOk, refl, sym, ap, inl, inr, ◌∙◌, arith}
use Rattle.std.specs.Bool.{if◌then◌else◌}
use Rattle.std.proofs.lemmas.Bool.{eqb-true, eqb-false}
use Rattle.std.proofs.lemmas.List.Sums.{sum_by-cons, sum-map}
use Rattle.nm_tiers.specs.declared.nodes.Node.{Node}
use Rattle.nm_tiers.specs.Tiers.{frames_of, frames_at, quotient_of, quotients_of, tiers_of}
use Rattle.nm_tiers.proofs.Quotients.{Ascends, Ascends-ascending}
use Rattle.nm_tiers.proofs.Law.{Among, Among-ascending_from}

-- what one node adds to the frames at q
abbrev share : Node → ℕ → ℕ
share node q = if quotient_of node == q then node.frames else 0

frames_at-cases : (node : Node) (rest : List Node) (same : Bool) → frames_of (if same then node ∷ rest else rest) ≡ (if same then node.frames else 0) + frames_of rest
frames_at-cases node rest true = sum_by-cons (λ n. n.frames) node rest
frames_at-cases node rest false = omega arith

frames_at-cons : (node : Node) (nodes : List Node) (q : ℕ) → frames_at (node ∷ nodes) q ≡ share node q + frames_at nodes q
frames_at-cons node nodes q =
    frames_at-cases node (filter (λ n. quotient_of n == q) nodes) (quotient_of node == q)

sum_frames-cons : (node : Node) (nodes : List Node) (qs : List ℕ) → sum_by (frames_at (node ∷ nodes)) qs ≡ sum_by (share node) qs + sum_by (frames_at nodes) qs
sum_frames-cons node nodes [] = omega arith
sum_frames-cons node nodes (q ∷ qs) =
    omega (arith, sum_by-cons (frames_at (node ∷ nodes)) q qs, sum_by-cons (share node) q qs, sum_by-cons (frames_at nodes) q qs, frames_at-cons node nodes q, sum_frames-cons node nodes qs)

sum_frames-nil : (qs : List ℕ) → sum_by (frames_at []) qs ≡ 0
sum_frames-nil [] = refl
sum_frames-nil (q ∷ qs) = omega (arith, sum_by-cons (frames_at []) q qs, sum_frames-nil qs)

share-cases : (node : Node) (q : ℕ) (same : Bool) → (quotient_of node == q) ≡ same → share node q ≡ (if same then node.frames else 0)
share-cases node q same e = ap (λ b. if b then node.frames else 0) e

share-none : (node : Node) (q : ℕ) (same : Bool) → (quotient_of node == q) ≡ same → quotient_of node < q → share node q ≡ 0
share-none node q true e low = absurd (omega (arith, eqb-true (quotient_of node) q e))
share-none node q false e low = share-cases node q false e

-- a node adds nothing at greater numbers
sum_share-none : (node : Node) (s : ℕ) (qs : List ℕ) → quotient_of node < s → Ascends s qs → sum_by (share node) qs ≡ 0
sum_share-none node s [] low h = refl
sum_share-none node s (q ∷ qs) low h =
    let rest = sum_share-none node (q + 1) qs (omega arith) h.1 in
    let here : share node q ≡ 0 = share-none node q (quotient_of node == q) refl (omega arith) in
    omega (arith, sum_by-cons (share node) q qs)

once-cases : (node : Node) (q : ℕ) (qs : List ℕ) (same : Bool) → (quotient_of node == q) ≡ same → Ascends (q + 1) qs → Among (quotient_of node) (q ∷ qs) → (Among (quotient_of node) qs → sum_by (share node) qs ≡ node.frames) → share node q + sum_by (share node) qs ≡ node.frames
once-cases node q qs true e h m rest =
    omega (arith, share-cases node q true e, sum_share-none node (q + 1) qs (omega (arith, eqb-true (quotient_of node) q e)) h)
once-cases node q qs false e h m rest =
    elim m [
      | inl same ↦ absurd (eqb-false (quotient_of node) q e (sym same))
      | inr later ↦ omega (arith, share-cases node q false e, rest later)
    ]

-- a node adds its frames once
sum_share-once : (node : Node) (s : ℕ) (qs : List ℕ) → Ascends s qs → Among (quotient_of node) qs → sum_by (share node) qs ≡ node.frames
sum_share-once node s [] h m = absurd m
sum_share-once node s (q ∷ qs) h m =
    sum_by-cons (share node) q qs ∙ once-cases node q qs (quotient_of node == q) refl h.1 m (λ a. sum_share-once node (q + 1) qs h.1 a)

sum_frames : (nodes : List Node) (s : ℕ) (qs : List ℕ) → Ascends s qs → ((u : ℕ) → Among u (map quotient_of nodes) → Among u qs) → sum_by (frames_at nodes) qs ≡ frames_of nodes
sum_frames [] s qs h all = sum_frames-nil qs
sum_frames (node ∷ nodes) s qs h all =
    let rest = sum_frames nodes s qs h (λ u a. all u (inr a)) in
    omega (arith, sum_frames-cons node nodes qs, sum_share-once node s qs h (all (quotient_of node) (inl refl)), sum_by-cons (λ n. n.frames) node nodes)

-- no frame is lost, and none is counted twice
pub sum-tiers_of : (nodes : List Node) → sum (tiers_of nodes) ≡ frames_of nodes
sum-tiers_of nodes =
    let qs : List ℕ = quotients_of nodes in
    sum-map (frames_at nodes) qs ∙ sum_frames nodes 0 qs (Ascends-ascending (map quotient_of nodes)) (λ u a. Among-ascending_from u (map quotient_of nodes) a)

-- the same, behind a result
pub IfOk-sum : {V E : Type 0} (items : V → List ℕ) (nodes : List Node) (r : Result V E) → IfOk r (λ v. items v ≡ tiers_of nodes) → IfOk r (λ v. sum (items v) ≡ frames_of nodes)
IfOk-sum items nodes (Ok v) e = ap sum e ∙ sum-tiers_of nodes
IfOk-sum items nodes (Err x) e = tt
