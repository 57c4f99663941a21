-- A list of bytes cut at a byte, and without its front.
use Rattle.std.specs.Prelude.{◌≡◌, ℕ, ◌==◌, if◌then◌else◌, false, List, [], ◌∷◌, Option, Some, None}
use Rattle.std.specs.List.{list_any}
use Rattle.std.specs.Option.{option_map}

-- the byte stands nowhere in the list
abbrev pub Lacks : ℕ → List ℕ → Type 0
Lacks at xs = list_any (λ x. x == at) xs ≡ false

-- what stands before the first byte `at`, and what stands after it
unfoldable pub cut_of : ℕ → List ℕ → Option (List ℕ × List ℕ)
cut_of at [] = None
cut_of at (x ∷ xs) = if x == at then Some ([], xs) else option_map (λ p. (x ∷ p.0, p.1)) (cut_of at xs)

-- what stands after the front, where the list begins with it
unfoldable pub strip_of : List ℕ → List ℕ → Option (List ℕ)
strip_of [] xs = Some xs
strip_of (c ∷ cs) [] = None
strip_of (c ∷ cs) (x ∷ xs) = if x == c then strip_of cs xs else None
