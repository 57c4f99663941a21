-- Items at their places.
use Rattle.std.proofs.Common.{rules, ◌↔◌, IsTrue, IsSome, is_some, MatchOption, ◌≡◌, ◌≢◌, ℕ, zero, suc, ◌+◌, ◌<◌, List, [], ◌∷◌, ◌++◌, Option, Some, None, length, take, drop, get_or, set, arith}
use Rattle.nm_view.specs.Lists.{find, edit, erase, put, IsPlaceOf}

pub find-more : {A : Type 0} (key : A → ℕ) (k i : ℕ) (xs : List A) (d : A) → i < length xs → find key k (take i xs) ≡ None → key (get_or xs i d) ≢ k → find key k (take (i + 1) xs) ≡ None
find-more key k i [] d lt f n = let bad : ⊥ = omega arith in absurd bad
find-more key k zero (x ∷ xs) d lt f n = grind arith
find-more key k (suc i) (x ∷ xs) d lt f n = grind (arith, find-more key k i xs d)

pub find-at : {A : Type 0} (key : A → ℕ) (k i : ℕ) (xs : List A) (d : A) → i < length xs → key (get_or xs i d) ≡ k → find key k (take i xs) ≡ None → find key k xs ≡ Some (get_or xs i d)
find-at key k i [] d lt n f = let bad : ⊥ = omega arith in absurd bad
find-at key k zero (x ∷ xs) d lt n f = grind arith
find-at key k (suc i) (x ∷ xs) d lt n f = grind (arith, find-at key k i xs d)

pub put-at : {A : Type 0} (key : A → ℕ) (y : A) (i : ℕ) (xs : List A) (d : A) → i < length xs → key (get_or xs i d) ≡ key y → find key (key y) (take i xs) ≡ None → put key y xs ≡ set xs i y
put-at key y i [] d lt n f = let bad : ⊥ = omega arith in absurd bad
put-at key y zero (x ∷ xs) d lt n f = grind arith
put-at key y (suc i) (x ∷ xs) d lt n f = grind (arith, put-at key y i xs d)

pub put-new : {A : Type 0} (key : A → ℕ) (y : A) (xs : List A) → find key (key y) xs ≡ None → put key y xs ≡ xs ++ y ∷ []
put-new key y [] f = grind arith
put-new key y (x ∷ xs) f = grind (arith, put-new key y xs)

pub edit-at : {A : Type 0} (key : A → ℕ) (k : ℕ) (h : A → A) (i : ℕ) (xs : List A) (d : A) → i < length xs → key (get_or xs i d) ≡ k → find key k (take i xs) ≡ None → edit key k h xs ≡ set xs i (h (get_or xs i d))
edit-at key k h i [] d lt n f = let bad : ⊥ = omega arith in absurd bad
edit-at key k h zero (x ∷ xs) d lt n f = grind arith
edit-at key k h (suc i) (x ∷ xs) d lt n f = grind (arith, edit-at key k h i xs d)

pub edit-none : {A : Type 0} (key : A → ℕ) (k : ℕ) (h : A → A) (xs : List A) → find key k xs ≡ None → edit key k h xs ≡ xs
edit-none key k h [] f = grind arith
edit-none key k h (x ∷ xs) f = grind (arith, edit-none key k h xs)

pub erase-at : {A : Type 0} (key : A → ℕ) (k i : ℕ) (xs : List A) → i < length xs → ((d : A) → key (get_or xs i d) ≡ k) → find key k (take i xs) ≡ None → erase key k xs ≡ take i xs ++ drop (suc i) xs
erase-at key k i [] lt n f = let bad : ⊥ = omega arith in absurd bad
erase-at key k zero (x ∷ xs) lt n f = grind (arith, n x)
erase-at key k (suc i) (x ∷ xs) lt n f = grind (arith, erase-at key k i xs)

pub erase-none : {A : Type 0} (key : A → ℕ) (k : ℕ) (xs : List A) → find key k xs ≡ None → erase key k xs ≡ xs
erase-none key k [] f = grind arith
erase-none key k (x ∷ xs) f = grind (arith, erase-none key k xs)

-- the same, of the place of an item
pub found : {A : Type 0} {key : A → ℕ} {k i : ℕ} {xs : List A} → IsPlaceOf key k xs i → (d : A) → find key k xs ≡ Some (get_or xs i d)
found h d = find-at _ _ _ _ d h.within (h.number d) h.first

pub put_found : {A : Type 0} (key : A → ℕ) (y : A) (i : ℕ) (xs : List A) → IsPlaceOf key (key y) xs i → put key y xs ≡ set xs i y
put_found key y i xs h = put-at key y i xs y h.within (h.number y) h.first

pub edit_found : {A : Type 0} (key : A → ℕ) (k : ℕ) (f : A → A) (i : ℕ) (xs : List A) (d : A) → IsPlaceOf key k xs i → edit key k f xs ≡ set xs i (f (get_or xs i d))
edit_found key k f i xs d h = edit-at key k f i xs d h.within (h.number d) h.first

pub erase_found : {A : Type 0} {key : A → ℕ} {k i : ℕ} {xs : List A} → IsPlaceOf key k xs i → erase key k xs ≡ take i xs ++ drop (suc i) xs
erase_found h = erase-at _ _ _ _ h.within h.number h.first

pub find-whole : {A : Type 0} (key : A → ℕ) (k : ℕ) (xs : List A) → find key k (take (length xs) xs) ≡ None → find key k xs ≡ None
find-whole key k [] f = f
find-whole key k (x ∷ xs) f = grind (arith, find-whole key k xs)

pub found_some : {A : Type 0} (key : A → ℕ) (k : ℕ) (xs : List A) (o : Option ℕ) → MatchOption o (find key k xs ≡ None) (IsPlaceOf key k xs) → IsTrue (is_some o) ↔ IsSome (find key k xs)
found_some key k xs None h = rw h (search rules)
found_some key k [] (Some i) h = let bad : ⊥ = omega (arith, h.within) in absurd bad
found_some key k (x ∷ xs) (Some i) h = rw (found h x) (search rules)
