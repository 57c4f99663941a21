-- Lists whose items have a number each: an item in the middle, and what a list has from a place on.
use Rattle.std.proofs.Common.{◌≡◌, ◌≢◌, ℕ, zero, suc, ◌+◌, ◌-◌, ◌<◌, ◌≤◌, ◌==◌, if◌then◌else◌, Bool, true, false, List, [], ◌∷◌, ◌++◌, length, drop, map, All, Option, Some, None, IsSome, refl, sym, ap, ◌∙◌, subst, arith}
use Rattle.std.proofs.lemmas.List.{length-drop, drop-drop}
use Rattle.nm_view.specs.Lists.{find, edit, erase, Once}
use Rattle.nm_view.proofs.Items.{all_head, all_tail, more, none_left, all_same}

-- An item in the middle.

pub find-middle : {A : Type 0} (key : A → ℕ) (k : ℕ) (y : A) (xs ys : List A) → find key k xs ≡ None → key y ≡ k → find key k (xs ++ y ∷ ys) ≡ Some y
find-middle key k y [] ys fresh is = grind arith
find-middle key k y (x ∷ xs) ys fresh is = grind (arith, find-middle key k y xs ys)

pub edit-middle : {A : Type 0} (key : A → ℕ) (k : ℕ) (f : A → A) (y : A) (xs ys : List A) → find key k xs ≡ None → key y ≡ k → edit key k f (xs ++ y ∷ ys) ≡ xs ++ f y ∷ ys
edit-middle key k f y [] ys fresh is = grind arith
edit-middle key k f y (x ∷ xs) ys fresh is = grind (arith, edit-middle key k f y xs ys)

pub erase-middle : {A : Type 0} (key : A → ℕ) (k : ℕ) (y : A) (xs ys : List A) → find key k xs ≡ None → key y ≡ k → erase key k (xs ++ y ∷ ys) ≡ xs ++ ys
erase-middle key k y [] ys fresh is = grind arith
erase-middle key k y (x ∷ xs) ys fresh is = grind (arith, erase-middle key k y xs ys)

-- Numbers that are not there.

pub absent-both : {A : Type 0} (key : A → ℕ) (k : ℕ) (xs ys : List A) → find key k xs ≡ None → find key k ys ≡ None → find key k (xs ++ ys) ≡ None
absent-both key k [] ys a b = b
absent-both key k (x ∷ xs) ys a b = grind (arith, absent-both key k xs ys)

pub absent-front : {A : Type 0} (key : A → ℕ) (k : ℕ) (xs ys : List A) → find key k (xs ++ ys) ≡ None → find key k xs ≡ None
absent-front key k [] ys a = refl
absent-front key k (x ∷ xs) ys a = grind (arith, absent-front key k xs ys)

pub absent-head : {A : Type 0} (key : A → ℕ) (k : ℕ) (x : A) (xs : List A) → find key k (x ∷ xs) ≡ None → key x ≢ k
absent-head key k x xs a = grind arith

pub absent-tail : {A : Type 0} (key : A → ℕ) (k : ℕ) (x : A) (xs : List A) → find key k (x ∷ xs) ≡ None → find key k xs ≡ None
absent-tail key k x xs a = grind arith

pub absent-more : {A : Type 0} (key : A → ℕ) (k : ℕ) (x : A) (xs : List A) → key x ≢ k → find key k xs ≡ None → find key k (x ∷ xs) ≡ None
absent-more key k x xs other a = grind arith

pub absent-rest : {A : Type 0} (key : A → ℕ) (k : ℕ) (xs ys : List A) → find key k (xs ++ ys) ≡ None → find key k ys ≡ None
absent-rest key k [] ys a = a
absent-rest key k (x ∷ xs) ys a = absent-rest key k xs ys (absent-tail key k x (xs ++ ys) a)

-- where no item has this number
pub absent-all : {A : Type 0} (key : A → ℕ) (k : ℕ) (xs : List A) → All (λ x. key x ≢ k) xs → find key k xs ≡ None
absent-all key k [] h = refl
absent-all {A} key k (x ∷ xs) h = let N : A → Type 0 = λ y. key y ≢ k in absent-more key k x xs (all_head N x xs h) (absent-all key k xs (all_tail N x xs h))

-- a list that is made of another, each item with the number of its origin
pub absent-made : {A B : Type 0} (key : A → ℕ) (other : B → ℕ) (f : A → B) (k : ℕ) (xs : List A) → All (λ x. other (f x) ≡ key x) xs → find key k xs ≡ None → find other k (map f xs) ≡ None
absent-made key other f k [] same a = refl
absent-made {A} {B} key other f k (x ∷ xs) same a =
    let S : A → Type 0 = λ y. other (f y) ≡ key y in
    let here : other (f x) ≡ key x = all_head S x xs same in
    let N : ℕ → Type 0 = λ n. n ≢ k in
    absent-more other k (f x) (map f xs) (subst N (sym here) (absent-head key k x xs a)) (absent-made key other f k xs (all_tail S x xs same) (absent-tail key k x xs a))

-- and back
pub absent-origin : {A B : Type 0} (key : A → ℕ) (other : B → ℕ) (f : A → B) (k : ℕ) (xs : List A) → All (λ x. other (f x) ≡ key x) xs → find other k (map f xs) ≡ None → find key k xs ≡ None
absent-origin key other f k [] same a = refl
absent-origin {A} {B} key other f k (x ∷ xs) same a =
    let S : A → Type 0 = λ y. other (f y) ≡ key y in
    let here : other (f x) ≡ key x = all_head S x xs same in
    let N : ℕ → Type 0 = λ n. n ≢ k in
    absent-more key k x xs (subst N here (absent-head other k (f x) (map f xs) a)) (absent-origin key other f k xs (all_tail S x xs same) (absent-tail other k (f x) (map f xs) a))

-- No number stands twice.

pub once-front : {A : Type 0} (key : A → ℕ) (y : A) (xs ys : List A) → Once key (xs ++ y ∷ ys) → find key (key y) xs ≡ None
once-front key y [] ys h = refl
once-front {A} key y (x ∷ xs) ys h =
    absent-more key (key y) x xs (λ e. let P : ℕ → Type 0 = λ n. find key n (xs ++ y ∷ ys) ≡ None in absent-head key (key y) y ys (absent-rest key (key y) xs (y ∷ ys) (subst P e h.0)) refl) (once-front key y xs ys h.1)

pub absent-swap : {A : Type 0} (key : A → ℕ) (k : ℕ) (y z : A) (xs ys : List A) → key z ≡ key y → find key k (xs ++ y ∷ ys) ≡ None → find key k (xs ++ z ∷ ys) ≡ None
absent-swap key k y z [] ys same a = grind arith
absent-swap key k y z (x ∷ xs) ys same a = grind (arith, absent-swap key k y z xs ys)

-- an item in the place of another of its number
pub once-swap : {A : Type 0} (key : A → ℕ) (y z : A) (xs ys : List A) → key z ≡ key y → Once key (xs ++ y ∷ ys) → Once key (xs ++ z ∷ ys)
once-swap {A} key y z [] ys same h = let P : ℕ → Type 0 = λ n. find key n ys ≡ None in (subst P (sym same) h.0, h.1)
once-swap key y z (x ∷ xs) ys same h = (absent-swap key (key x) y z xs ys same h.0, once-swap key y z xs ys same h.1)

-- What holds of all items.

pub all-front : {A : Type 0} (P : A → Type 0) (xs ys : List A) → All P (xs ++ ys) → All P xs
all-front P [] ys h = none_left P
all-front P (x ∷ xs) ys h = more P x xs (all_head P x (xs ++ ys) h) (all-front P xs ys (all_tail P x (xs ++ ys) h))

pub all-rest : {A : Type 0} (P : A → Type 0) (xs ys : List A) → All P (xs ++ ys) → All P ys
all-rest P [] ys h = h
all-rest P (x ∷ xs) ys h = all-rest P xs ys (all_tail P x (xs ++ ys) h)

-- one item is another
pub all-swap : {A : Type 0} (P Q : A → Type 0) (y z : A) (xs ys : List A) → ((x : A) → P x → Q x) → Q z → All P (xs ++ y ∷ ys) → All Q (xs ++ z ∷ ys)
all-swap P Q y z [] ys same here h = more Q z ys here (all_same P Q ys same (all_tail P y ys h))
all-swap P Q y z (x ∷ xs) ys same here h = more Q x (xs ++ z ∷ ys) (same x (all_head P x (xs ++ y ∷ ys) h)) (all-swap P Q y z xs ys same here (all_tail P x (xs ++ y ∷ ys) h))

-- of two facts about all items
pub all-with : {A : Type 0} (P Q R : A → Type 0) (xs : List A) → ((x : A) → P x → Q x → R x) → All P xs → All Q xs → All R xs
all-with P Q R [] both p q = none_left R
all-with P Q R (x ∷ xs) both p q = more R x xs (both x (all_head P x xs p) (all_head Q x xs q)) (all-with P Q R xs both (all_tail P x xs p) (all_tail Q x xs q))

-- what holds of all that are made of a list
pub all-origin : {A B : Type 0} (P : B → Type 0) (f : A → B) (xs : List A) → All P (map f xs) → All (λ x. P (f x)) xs
all-origin {A} {B} P f [] h = none_left (λ (x : A). P (f x))
all-origin {A} {B} P f (x ∷ xs) h = more (λ (y : A). P (f y)) x xs (all_head P (f x) (map f xs) h) (all-origin P f xs (all_tail P (f x) (map f xs) h))

-- What is left from a place on.

pub drop-next : {A : Type 0} (n : ℕ) (xs ys : List A) (y : A) → drop n xs ≡ y ∷ ys → drop (n + 1) xs ≡ ys
drop-next n xs ys y e = sym (drop-drop 1 n xs) ∙ ap (drop 1) e

pub drop-within : {A : Type 0} (n : ℕ) (xs ys : List A) (y : A) → drop n xs ≡ y ∷ ys → n < length xs
drop-within {A} n xs ys y e =
    let l : length (drop n xs) ≡ length (y ∷ ys) = ap length e in
    let d : length (drop n xs) ≡ length xs - n = length-drop n xs in
    omega arith

pub drop-over : {A : Type 0} (n : ℕ) (xs : List A) → drop n xs ≡ [] → length xs ≤ n
drop-over {A} n xs e =
    let l : length (drop n xs) ≡ 0 = ap length e in
    let d : length (drop n xs) ≡ length xs - n = length-drop n xs in
    omega arith

pub once-drop : {A : Type 0} (key : A → ℕ) (n : ℕ) (xs : List A) → Once key xs → Once key (drop n xs)
once-drop key zero xs h = h
once-drop key (suc n) [] h = h
once-drop key (suc n) (x ∷ xs) h = once-drop key n xs h.1

-- the item at a place is one of the list
pub all-drop : {A : Type 0} (P : A → Type 0) (n : ℕ) (xs ys : List A) (y : A) → drop n xs ≡ y ∷ ys → All P xs → P y
all-drop P zero [] ys y e h = cc
all-drop P (suc n) [] ys y e h = cc
all-drop {A} P zero (x ∷ xs) ys y e h = let same : x ≡ y = cc in subst P same (all_head P x xs h)
all-drop P (suc n) (x ∷ xs) ys y e h = all-drop P n xs ys y e (all_tail P x xs h)

some-choice : {A : Type 0} (test : Bool) (x : A) (o : Option A) → IsSome o → IsSome (if test then Some x else o)
some-choice true x o h = refl
some-choice false x o h = h

pub found-more : {A : Type 0} (key : A → ℕ) (k : ℕ) (x : A) (xs : List A) → IsSome (find key k xs) → IsSome (find key k (x ∷ xs))
found-more key k x xs h = some-choice (key x == k) x (find key k xs) h

pub found-here : {A : Type 0} (key : A → ℕ) (x : A) (xs : List A) → IsSome (find key (key x) (x ∷ xs))
found-here {A} key x xs = let t : (key x == key x) ≡ true = grind arith in let S : Bool → Type 0 = λ b. IsSome (if b then Some x else find key (key x) xs) in subst S (sym t) refl

pub found-drop : {A : Type 0} (key : A → ℕ) (n : ℕ) (xs ys : List A) (y : A) → drop n xs ≡ y ∷ ys → IsSome (find key (key y) xs)
found-drop key zero [] ys y e = cc
found-drop key (suc n) [] ys y e = cc
found-drop {A} key zero (x ∷ xs) ys y e = let same : x ≡ y = cc in let F : A → Type 0 = λ z. IsSome (find key (key z) (x ∷ xs)) in subst F same (found-here key x xs)
found-drop key (suc n) (x ∷ xs) ys y e = found-more key (key y) x xs (found-drop key n xs ys y e)

pub empty-list : {A : Type 0} (xs : List A) → length xs ≡ 0 → xs ≡ []
empty-list [] e = refl
empty-list (x ∷ xs) e = let bad : ⊥ = omega (arith, e) in absurd bad
