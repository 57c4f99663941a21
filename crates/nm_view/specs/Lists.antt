-- Lists whose items have a number each: each item is read and changed by its number, the first of that number.
use Rattle.std.specs.Prelude.{◌≡◌, ℕ, ◌<◌, ◌==◌, take, length, slice_index_or, if◌then◌else◌, List, [], ◌∷◌, Option, Some, None}

-- the first item of number k
abbrev pub find : {A : Type 0} → (A → ℕ) → ℕ → List A → Option A
find key k [] = None
find key k (x ∷ xs) = if key x == k then Some x else find key k xs

-- the list with its first item of number k changed
abbrev pub edit : {A : Type 0} → (A → ℕ) → ℕ → (A → A) → List A → List A
edit key k f [] = []
edit key k f (x ∷ xs) = if key x == k then f x ∷ xs else x ∷ edit key k f xs

-- the list without its first item of number k; the others stay in their order
abbrev pub erase : {A : Type 0} → (A → ℕ) → ℕ → List A → List A
erase key k [] = []
erase key k (x ∷ xs) = if key x == k then xs else x ∷ erase key k xs

-- the list with y in the place of its first item of y's number, or at the end where there is none
abbrev pub put : {A : Type 0} → (A → ℕ) → A → List A → List A
put key y [] = y ∷ []
put key y (x ∷ xs) = if key x == key y then y ∷ xs else x ∷ put key y xs

-- no number stands twice
abbrev pub Once : {A : Type 0} → (A → ℕ) → List A → Type 0
Once key [] = Unit {0}
Once key (x ∷ xs) = (find key (key x) xs ≡ None) × Once key xs

-- i is the place of the first item of number k
pub record IsPlaceOf {A : Type 0} (key : A → ℕ) (k : ℕ) (xs : List A) (i : ℕ) : Type 0 where
  pub within : i < length xs
  pub number : (d : A) → key (slice_index_or xs i d) ≡ k
  pub first : find key k (take i xs) ≡ None

-- the number of a virtual page with a word, or with a number of raises
abbrev pub first : ℕ × ℕ → ℕ
first p = p.0

-- the number of a number
abbrev pub itself : ℕ → ℕ
itself v = v
