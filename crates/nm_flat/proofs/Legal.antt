-- Legal lists and the memory after them, list by list.
use Rattle.std.proofs.Common.{◌≡◌, ℕ, zero, suc, ◌+◌, ◌<◌, List, [], ◌∷◌, ◌++◌, length, take, get_or, refl, arith}
use Rattle.std.specs.Prelude.{◌==◌}
use Rattle.std.proofs.lemmas.List.Elements.{filter-append}
use Rattle.std.proofs.lemmas.List.{take_more}
use Rattle.nm_base.specs.Geometry.{Geometry}
use Rattle.nm_flat.specs.declared.access.Access.{Access}
use Rattle.nm_flat.specs.Memory.{Memory, empty_memory, with_access, memory_from, memory_after, IsTrueOf, IsLegalFrom, IsLegal, own_part_of}

-- the memory after one list and then another
pub memory_from-append : (g : Geometry) (m : Memory) (xs ys : List Access) → memory_from g m (xs ++ ys) ≡ memory_from g (memory_from g m xs) ys
memory_from-append g m [] ys = refl
memory_from-append g m (x ∷ xs) ys = memory_from-append g (with_access g m x) xs ys

-- the same, every word being 0 at first
pub memory_after-append : (g : Geometry) (xs ys : List Access) → memory_after g (xs ++ ys) ≡ memory_from g (memory_after g xs) ys
memory_after-append g xs ys = memory_from-append g empty_memory xs ys

-- the memory after one more access
pub memory_after-push : (g : Geometry) (xs : List Access) (a : Access) → memory_after g (xs ++ a ∷ []) ≡ with_access g (memory_after g xs) a
memory_after-push g xs a = memory_from-append g empty_memory xs (a ∷ [])

-- two lists are legal one after the other where the first is, and the second is from the memory after the first
pub IsLegalFrom-append : (g : Geometry) (m : Memory) (xs ys : List Access) → IsLegalFrom g m xs → IsLegalFrom g (memory_from g m xs) ys → IsLegalFrom g m (xs ++ ys)
IsLegalFrom-append g m [] ys before after = after
IsLegalFrom-append g m (x ∷ xs) ys before after = (before.0, IsLegalFrom-append g (with_access g m x) xs ys before.1 after)

-- the first part of a legal list is legal
pub IsLegalFrom-before : (g : Geometry) (m : Memory) (xs ys : List Access) → IsLegalFrom g m (xs ++ ys) → IsLegalFrom g m xs
IsLegalFrom-before g m [] ys legal = tt
IsLegalFrom-before g m (x ∷ xs) ys legal = (legal.0, IsLegalFrom-before g (with_access g m x) xs ys legal.1)

-- the second part of a legal list is legal from the memory after the first
pub IsLegalFrom-after : (g : Geometry) (m : Memory) (xs ys : List Access) → IsLegalFrom g m (xs ++ ys) → IsLegalFrom g (memory_from g m xs) ys
IsLegalFrom-after g m [] ys legal = legal
IsLegalFrom-after g m (x ∷ xs) ys legal = IsLegalFrom-after g (with_access g m x) xs ys legal.1

-- a legal list stays legal with one more access that tells what the memory has
pub IsLegal-push : (g : Geometry) (xs : List Access) (a : Access) → IsLegal g xs → IsTrueOf g (memory_after g xs) a → IsLegal g (xs ++ a ∷ [])
IsLegal-push g xs a legal true = IsLegalFrom-append g empty_memory xs (a ∷ []) legal (true, tt)

-- a legal list without its last access is legal
pub IsLegal-before : (g : Geometry) (xs : List Access) (a : Access) → IsLegal g (xs ++ a ∷ []) → IsLegal g xs
IsLegal-before g xs a legal = IsLegalFrom-before g empty_memory xs (a ∷ []) legal

-- the last access of a legal list tells what the memory has
pub IsLegal-last : (g : Geometry) (xs : List Access) (a : Access) → IsLegal g (xs ++ a ∷ []) → IsTrueOf g (memory_after g xs) a
IsLegal-last g xs a legal = (IsLegalFrom-after g empty_memory xs (a ∷ []) legal).0

true_among : (g : Geometry) (m : Memory) (xs : List Access) (i : ℕ) (d : Access) → i < length xs → IsLegalFrom g m xs → IsTrueOf g (memory_from g m (take i xs)) (get_or xs i d)
true_among g m [] i d within legal = absurd (omega arith)
true_among g m (x ∷ xs) zero d within legal = legal.0
true_among g m (x ∷ xs) (suc i) d within legal = true_among g (with_access g m x) xs i d (omega arith) legal.1

-- each access of a legal list tells what the memory has after those before it
pub IsLegal-get_or : (g : Geometry) (xs : List Access) (i : ℕ) (d : Access) → i < length xs → IsLegal g xs → IsTrueOf g (memory_after g (take i xs)) (get_or xs i d)
IsLegal-get_or g xs i d within legal = true_among g empty_memory xs i d within legal

-- the memory after one access more of a list
pub memory_after-take : (g : Geometry) (xs : List Access) (i : ℕ) (d : Access) → i < length xs → memory_after g (take (i + 1) xs) ≡ with_access g (memory_after g (take i xs)) (get_or xs i d)
memory_after-take g xs i d within = rw (take_more xs i d within) (memory_after-push g (take i xs) (get_or xs i d))

-- a legal part of a list stays legal with the next access, where that tells what the memory has
pub IsLegal-take : (g : Geometry) (xs : List Access) (i : ℕ) (d : Access) → i < length xs → IsLegal g (take i xs) → IsTrueOf g (memory_after g (take i xs)) (get_or xs i d) → IsLegal g (take (i + 1) xs)
IsLegal-take g xs i d within legal true = rw (take_more xs i d within) (IsLegal-push g (take i xs) (get_or xs i d) legal true)

-- the own part of one list and then another
pub own_part_of-append : (cpu : ℕ) (xs ys : List Access) → own_part_of cpu (xs ++ ys) ≡ own_part_of cpu xs ++ own_part_of cpu ys
own_part_of-append cpu xs ys = filter-append (λ a. a.cpu == cpu) xs ys
