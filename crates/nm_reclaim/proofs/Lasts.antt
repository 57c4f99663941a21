-- An item of a new number at the end of a list.
use Rattle.std.proofs.Common.{◌≡◌, ℕ, List, [], ◌∷◌, ◌++◌, None, arith}
use Rattle.nm_view.specs.Lists.{find, edit, erase, put}

pub edit_last : {A : Type 0} (key : A → ℕ) (f : A → A) (y : A) (xs : List A) → find key (key y) xs ≡ None → edit key (key y) f (xs ++ y ∷ []) ≡ xs ++ f y ∷ []
edit_last key f y [] n = grind arith
edit_last key f y (x ∷ xs) n = grind (arith, edit_last key f y xs)

pub erase_last : {A : Type 0} (key : A → ℕ) (y : A) (xs : List A) → find key (key y) xs ≡ None → erase key (key y) (xs ++ y ∷ []) ≡ xs
erase_last key y [] n = grind arith
erase_last key y (x ∷ xs) n = grind (arith, erase_last key y xs)

pub put_last : {A : Type 0} (key : A → ℕ) (y : A) (xs : List A) → find key (key y) xs ≡ None → put key y xs ≡ xs ++ y ∷ []
put_last key y [] n = grind arith
put_last key y (x ∷ xs) n = grind (arith, put_last key y xs)
