-- Lists by numbers: what is found after each change, that no number stands twice after it, and lengths.
use Rattle.std.proofs.Common.{◌≡◌, ◌≢◌, ℕ, ◌+◌, ◌≤◌, Bool, List, [], ◌∷◌, ◌++◌, map, Some, None, length, refl, arith}
use Rattle.std.specs.Prelude.{option_map}
use Rattle.std.specs.List.{filter}
use Rattle.nm_view.specs.Lists.{find, edit, erase, put, Once}
use Rattle.nm_view.proofs.Items.{not_none}

-- Finding.

-- what is found has the number
pub find_number : {A : Type 0} (key : A → ℕ) (k : ℕ) (xs : List A) (x : A) → find key k xs ≡ Some x → key x ≡ k
find_number key k [] x e = absurd (not_none x e)
find_number key k (y ∷ ys) x e = grind (arith, find_number key k ys x)

-- an item that is put is found under its number, and every other is as it was
pub find_put : {A : Type 0} (key : A → ℕ) (y : A) (xs : List A) → find key (key y) (put key y xs) ≡ Some y
find_put key y [] = grind arith
find_put key y (x ∷ xs) = grind (arith, find_put key y xs)

pub find_put_other : {A : Type 0} (key : A → ℕ) (y : A) (k : ℕ) (xs : List A) → key y ≢ k → find key k (put key y xs) ≡ find key k xs
find_put_other key y k [] n = grind arith
find_put_other key y k (x ∷ xs) n = grind (arith, find_put_other key y k xs n)

-- an item of a new number at the end
pub find_join : {A : Type 0} (key : A → ℕ) (y : A) (xs : List A) → find key (key y) xs ≡ None → find key (key y) (xs ++ y ∷ []) ≡ Some y
find_join key y [] f = grind arith
find_join key y (x ∷ xs) f = grind (arith, find_join key y xs)

pub find_join_other : {A : Type 0} (key : A → ℕ) (y : A) (k : ℕ) (xs : List A) → key y ≢ k → find key k (xs ++ y ∷ []) ≡ find key k xs
find_join_other key y k [] n = grind arith
find_join_other key y k (x ∷ xs) n = grind (arith, find_join_other key y k xs n)

-- an edit that keeps numbers changes what is found under its number alone
pub find_edit : {A : Type 0} (key : A → ℕ) (k : ℕ) (h : A → A) (xs : List A) → ((x : A) → key (h x) ≡ key x) → find key k (edit key k h xs) ≡ option_map h (find key k xs)
find_edit key k h [] same = refl
find_edit key k h (x ∷ xs) same = grind (arith, same x, find_edit key k h xs same)

pub find_edit_other : {A : Type 0} (key : A → ℕ) (j : ℕ) (h : A → A) (k : ℕ) (xs : List A) → ((x : A) → key (h x) ≡ key x) → j ≢ k → find key k (edit key j h xs) ≡ find key k xs
find_edit_other key j h k [] same n = refl
find_edit_other key j h k (x ∷ xs) same n = grind (arith, same x, find_edit_other key j h k xs same n)

-- a change of every item
pub find_map : {A : Type 0} (key : A → ℕ) (h : A → A) (k : ℕ) (xs : List A) → ((x : A) → key (h x) ≡ key x) → find key k (map h xs) ≡ option_map h (find key k xs)
find_map key h k [] same = refl
find_map key h k (x ∷ xs) same = grind (arith, same x, find_map key h k xs same)

-- an item that is taken out is found no more, where its number stands once, and every other is as it was
pub find_erase : {A : Type 0} (key : A → ℕ) (k : ℕ) (xs : List A) → Once key xs → find key k (erase key k xs) ≡ None
find_erase key k [] o = refl
find_erase key k (x ∷ xs) o = grind (arith, find_erase key k xs)

pub find_erase_other : {A : Type 0} (key : A → ℕ) (j k : ℕ) (xs : List A) → j ≢ k → find key k (erase key j xs) ≡ find key k xs
find_erase_other key j k [] n = refl
find_erase_other key j k (x ∷ xs) n = grind (arith, find_erase_other key j k xs n)

-- What is not found is not found after a change.

pub absent_put : {A : Type 0} (key : A → ℕ) (y : A) (k : ℕ) (xs : List A) → key y ≢ k → find key k xs ≡ None → find key k (put key y xs) ≡ None
absent_put key y k [] n f = grind arith
absent_put key y k (x ∷ xs) n f = grind (arith, absent_put key y k xs)

pub absent_erase : {A : Type 0} (key : A → ℕ) (j k : ℕ) (xs : List A) → find key k xs ≡ None → find key k (erase key j xs) ≡ None
absent_erase key j k [] f = refl
absent_erase key j k (x ∷ xs) f = grind (arith, absent_erase key j k xs)

pub absent_edit : {A : Type 0} (key : A → ℕ) (j : ℕ) (h : A → A) (k : ℕ) (xs : List A) → ((x : A) → key (h x) ≡ key x) → find key k xs ≡ None → find key k (edit key j h xs) ≡ None
absent_edit key j h k [] same f = refl
absent_edit key j h k (x ∷ xs) same f = grind (arith, same x, absent_edit key j h k xs same)

pub absent_map : {A : Type 0} (key : A → ℕ) (h : A → A) (k : ℕ) (xs : List A) → ((x : A) → key (h x) ≡ key x) → find key k xs ≡ None → find key k (map h xs) ≡ None
absent_map key h k [] same f = refl
absent_map key h k (x ∷ xs) same f = grind (arith, same x, absent_map key h k xs same)

pub absent_filter : {A : Type 0} (key : A → ℕ) (p : A → Bool) (k : ℕ) (xs : List A) → find key k xs ≡ None → find key k (filter p xs) ≡ None
absent_filter key p k [] f = refl
absent_filter key p k (x ∷ xs) f = grind (arith, absent_filter key p k xs)

pub absent_join : {A : Type 0} (key : A → ℕ) (y : A) (k : ℕ) (xs : List A) → key y ≢ k → find key k xs ≡ None → find key k (xs ++ y ∷ []) ≡ None
absent_join key y k [] n f = grind arith
absent_join key y k (x ∷ xs) n f = grind (arith, absent_join key y k xs)

-- No number twice.

pub once_put : {A : Type 0} (key : A → ℕ) (y : A) (xs : List A) → Once key xs → Once key (put key y xs)
once_put key y [] o = (refl, tt)
once_put key y (x ∷ xs) o = grind (arith, absent_put key y (key x) xs, once_put key y xs)

pub once_erase : {A : Type 0} (key : A → ℕ) (k : ℕ) (xs : List A) → Once key xs → Once key (erase key k xs)
once_erase key k [] o = o
once_erase key k (x ∷ xs) o = grind (arith, absent_erase key k (key x) xs, once_erase key k xs)

pub once_edit : {A : Type 0} (key : A → ℕ) (k : ℕ) (h : A → A) (xs : List A) → ((x : A) → key (h x) ≡ key x) → Once key xs → Once key (edit key k h xs)
once_edit key k h [] same o = o
once_edit key k h (x ∷ xs) same o = grind (arith, same x, absent_edit key k h (key x) xs same, once_edit key k h xs same)

pub once_map : {A : Type 0} (key : A → ℕ) (h : A → A) (xs : List A) → ((x : A) → key (h x) ≡ key x) → Once key xs → Once key (map h xs)
once_map key h [] same o = o
once_map key h (x ∷ xs) same o = grind (arith, same x, absent_map key h (key x) xs same, once_map key h xs same)

pub once_filter : {A : Type 0} (key : A → ℕ) (p : A → Bool) (xs : List A) → Once key xs → Once key (filter p xs)
once_filter key p [] o = o
once_filter key p (x ∷ xs) o = grind (arith, absent_filter key p (key x) xs, once_filter key p xs)

pub once_join : {A : Type 0} (key : A → ℕ) (y : A) (xs : List A) → Once key xs → find key (key y) xs ≡ None → Once key (xs ++ y ∷ [])
once_join key y [] o f = (refl, tt)
once_join key y (x ∷ xs) o f = grind (arith, absent_join key y (key x) xs, once_join key y xs)

-- Lengths.

pub length_edit : {A : Type 0} (key : A → ℕ) (k : ℕ) (f : A → A) (xs : List A) → length (edit key k f xs) ≡ length xs
length_edit key k f [] = refl
length_edit key k f (x ∷ xs) = grind (arith, length_edit key k f xs)

pub length_erase : {A : Type 0} (key : A → ℕ) (k : ℕ) (xs : List A) → length (erase key k xs) ≤ length xs
length_erase key k [] = omega arith
length_erase key k (x ∷ xs) = grind (arith, length_erase key k xs)

pub length_erased : {A : Type 0} (key : A → ℕ) (k : ℕ) (xs : List A) → length xs ≤ length (erase key k xs) + 1
length_erased key k [] = omega arith
length_erased key k (x ∷ xs) = grind (arith, length_erased key k xs)
