-- The tiers that nodes of memory form: nodes whose distances have one quotient by 128 share a tier.
use Rattle.std.specs.Prelude.{ℕ, ◌/◌, ◌==◌, ◌↔◌, min, nat_lt, nat_le, if◌then◌else◌, Option, List, [], ◌∷◌, length, map, filter, sum_by, Contains}
use Rattle.std.specs.List.{reduce}
use Rattle.std.specs.List.Sorted.{IsStrictlyIncreasing}
use Rattle.nm_tiers.specs.declared.nodes.Node.{Node}

-- the frames of all nodes
abbrev pub frames_of : List Node → ℕ
frames_of nodes = sum_by (λ node. node.frames) nodes

-- what nodes of one tier have in common: the whole quotient of the distance by 128
abbrev pub quotient_of : Node → ℕ
quotient_of node = node.distance / 128

-- a number put into a list that ascends strictly, unless it is there
abbrev pub with_number : ℕ → List ℕ → List ℕ
with_number q [] = q ∷ []
with_number q (x ∷ xs) = if nat_lt q x then q ∷ x ∷ xs else if q == x then x ∷ xs else x ∷ with_number q xs

-- the different ones of some numbers, in ascending order
abbrev pub ascending : List ℕ → List ℕ
ascending [] = []
ascending (x ∷ xs) = with_number x (ascending xs)

-- the different quotients of the nodes, in ascending order
abbrev pub quotients_of : List Node → List ℕ
quotients_of nodes = ascending (map quotient_of nodes)

-- the frames of the nodes with this quotient
abbrev pub frames_at : List Node → ℕ → ℕ
frames_at nodes q = frames_of (filter (λ node. quotient_of node == q) nodes)

-- the frames of each tier, the fastest first
abbrev pub tiers_of : List Node → List ℕ
tiers_of nodes = map (frames_at nodes) (quotients_of nodes)

-- how many tiers the nodes would form
abbrev pub tier_count : List Node → ℕ
tier_count nodes = length (quotients_of nodes)

-- qs is the one list that ascends strictly and has exactly the quotients of the nodes
pub record AreQuotients (nodes : List Node) (qs : List ℕ) : Type 0 where
  pub ascending : IsStrictlyIncreasing qs
  pub exact : (q : ℕ) → Contains qs q ↔ Contains (map quotient_of nodes) q

-- those of the numbers that are at least `start`
abbrev pub at_least : ℕ → List ℕ → List ℕ
at_least start xs = filter (λ x. nat_le start x) xs

-- the least quotient of the nodes that is at least `start`
abbrev pub next_quotient_of : List Node → ℕ → Option ℕ
next_quotient_of nodes start = reduce min (at_least start (map quotient_of nodes))
