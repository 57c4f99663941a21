-- The words of a machine as one list, the number of bumps first, and the place of each name in it.
use Rattle.std.specs.Prelude.{ℕ, ◌+◌, ◌*◌, List, [], ◌∷◌, length, take, sum}
use Rattle.std.specs.List.{flat_map}
use Rattle.nm_base.specs.Geometry.{Geometry, page_count, frame_count}
use Rattle.nm_words.specs.declared.names.Where.{Where}
use Rattle.nm_words.specs.declared.names.Where.TheVariants.{Req, Pte, Stamp, Home, Shadow, Lock, Mark, Ack, Turn, Free, Mem}
use Rattle.nm_words.specs.Names.{free_word_count, free_place, mem_place}
use Rattle.nm_words.specs.Words.{Words}

-- the groups, in their order
abbrev pub groups_of : Words → List (List ℕ)
groups_of w = (w.req ∷ []) ∷ w.pte ∷ w.stamp ∷ w.home ∷ w.shadow ∷ w.lock ∷ w.mark ∷ w.ack ∷ w.turn ∷ w.free ∷ w.mem ∷ []

-- how many words each group has
abbrev pub sizes_of : Geometry → List ℕ
sizes_of g = 1 ∷ length g.vpages ∷ length g.vpages ∷ page_count g ∷ frame_count g ∷ page_count g ∷ page_count g ∷ g.cpus ∷ length g.tiers ∷ free_word_count g ∷ (frame_count g * g.words) ∷ []

-- all words, group by group
abbrev pub flat : Words → List ℕ
flat w = flat_map (λ group. group) (groups_of w)

-- how many words a machine has
abbrev pub total_words : Geometry → ℕ
total_words g = sum (sizes_of g)

-- the number of a word's group
abbrev pub group_of : Where → ℕ
group_of Req = 0
group_of (Pte v) = 1
group_of (Stamp v) = 2
group_of (Home b) = 3
group_of (Shadow m) = 4
group_of (Lock b) = 5
group_of (Mark b) = 6
group_of (Ack p) = 7
group_of (Turn t) = 8
group_of (Free t k) = 9
group_of (Mem f i) = 10

-- the place of a word in its group
abbrev pub offset_of : Geometry → Where → ℕ
offset_of g Req = 0
offset_of g (Pte v) = v
offset_of g (Stamp v) = v
offset_of g (Home b) = b
offset_of g (Shadow m) = m
offset_of g (Lock b) = b
offset_of g (Mark b) = b
offset_of g (Ack p) = p
offset_of g (Turn t) = t
offset_of g (Free t k) = free_place g t k
offset_of g (Mem f i) = mem_place g f i

-- the place of a word among all words
abbrev pub at : Geometry → Where → ℕ
at g c = sum (take (group_of c) (sizes_of g)) + offset_of g c
