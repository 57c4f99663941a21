-- What holds of all items of a list.
use Rattle.std.proofs.Common.{◌≡◌, ℕ, zero, suc, ◌<◌, ◌==◌, if◌then◌else◌, Bool, true, false, List, [], ◌∷◌, ◌++◌, Option, Some, None, All, length, get_or, map, refl, subst, arith}
use Rattle.std.specs.List.{filter}
use Rattle.nm_view.specs.Lists.{find, edit, erase, put}

pub all_head : {A : Type 0} (P : A → Type 0) (x : A) (xs : List A) → All P (x ∷ xs) → P x
all_head P x xs h = h zero x (omega arith)

pub all_tail : {A : Type 0} (P : A → Type 0) (x : A) (xs : List A) → All P (x ∷ xs) → All P xs
all_tail P x xs h = λ i d lt. h (suc i) d (omega arith)

pub some_same : {A : Type 0} (x y : A) → Some x ≡ Some y → x ≡ y
some_same x y e = cc

pub not_none : {A : Type 0} (x : A) → None ≡ Some x → ⊥
not_none x e = cc

find_go : {A : Type 0} (P : A → Type 0) (x o : A) (rest : Option A) (b : Bool) → P x → (rest ≡ Some o → P o) → (if b then Some x else rest) ≡ Some o → P o
find_go P x o rest true p r e = subst P (some_same x o e) p
find_go P x o rest false p r e = r e

-- what holds of all items holds of the one that is found
pub all_find : {A : Type 0} (key : A → ℕ) (k : ℕ) (P : A → Type 0) (xs : List A) (o : A) → All P xs → find key k xs ≡ Some o → P o
all_find key k P [] o h e = absurd (not_none o e)
all_find key k P (x ∷ xs) o h e = find_go P x o (find key k xs) (key x == k) (all_head P x xs h) (all_find key k P xs o (all_tail P x xs h)) e

edit_go : {A : Type 0} (P : A → Type 0) (f : A → A) (x o : A) (xs ys : List A) (rest : Option A) (b : Bool) → All P (if b then f x ∷ xs else x ∷ ys) → (All P ys → rest ≡ Some o → P (f o)) → (if b then Some x else rest) ≡ Some o → P (f o)
edit_go P f x o xs ys rest true h r e = let Q : _ → Type 0 = λ y. P (f y) in subst Q (some_same x o e) (all_head P (f x) xs h)
edit_go P f x o xs ys rest false h r e = r (all_tail P x ys h) e

-- what holds of all items after an edit holds of the one that was edited
pub all_edit_find : {A : Type 0} (key : A → ℕ) (k : ℕ) (f : A → A) (P : A → Type 0) (xs : List A) (o : A) → All P (edit key k f xs) → find key k xs ≡ Some o → P (f o)
all_edit_find key k f P [] o h e = absurd (not_none o e)
all_edit_find key k f P (x ∷ xs) o h e = edit_go P f x o xs (edit key k f xs) (find key k xs) (key x == k) h (all_edit_find key k f P xs o) e

pub all_last : {A : Type 0} (P : A → Type 0) (xs : List A) (y : A) → All P (xs ++ y ∷ []) → P y
all_last P [] y h = all_head P y [] h
all_last P (x ∷ xs) y h = all_last P xs y (all_tail P x (xs ++ y ∷ []) h)

pub only : {A : Type 0} (P : A → Type 0) (y : A) (i : ℕ) (d : A) → i < length (y ∷ []) → P y → P (get_or (y ∷ []) i d)
only P y zero d lt p = p
only P y (suc i) d lt p = let bad : ⊥ = omega (arith, lt) in absurd bad

pub more : {A : Type 0} (P : A → Type 0) (x : A) (xs : List A) → P x → All P xs → All P (x ∷ xs)
more P x xs p h zero d lt = p
more P x xs p h (suc i) d lt = h i d (omega arith)

pub all_join : {A : Type 0} (P : A → Type 0) (xs : List A) (y : A) → All P xs → P y → All P (xs ++ y ∷ [])
all_join P [] y h p = λ i d lt. only P y i d lt p
all_join P (x ∷ xs) y h p = more P x (xs ++ y ∷ []) (all_head P x xs h) (all_join P xs y (all_tail P x xs h) p)

-- What each change keeps.

pub none_left : {A : Type 0} (P : A → Type 0) → All P []
none_left P = λ i d lt. let bad : ⊥ = omega (arith, lt) in absurd bad

all_step : {A : Type 0} (P : A → Type 0) (x y : A) (xs ys : List A) (b : Bool) → (b ≡ true → P y) → (b ≡ true → All P xs) → (b ≡ false → All P ys) → (b ≡ false → P x) → All P (if b then y ∷ xs else x ∷ ys)
all_step P x y xs ys true p q r s = more P y xs (p refl) (q refl)
all_step P x y xs ys false p q r s = more P x ys (s refl) (r refl)

pub all_put : {A : Type 0} (key : A → ℕ) (P : A → Type 0) (y : A) (xs : List A) → P y → All P xs → All P (put key y xs)
all_put key P y [] p h = more P y [] p h
all_put key P y (x ∷ xs) p h = let t : All P xs = all_tail P x xs h in all_step P x y xs (put key y xs) (key x == key y) (λ _. p) (λ _. t) (λ _. all_put key P y xs p t) (λ _. all_head P x xs h)

all_choice : {A : Type 0} (P : A → Type 0) (x : A) (xs ys : List A) (b : Bool) → All P xs → (b ≡ false → All P ys) → (b ≡ false → P x) → All P (if b then xs else x ∷ ys)
all_choice P x xs ys true q r s = q
all_choice P x xs ys false q r s = more P x ys (s refl) (r refl)

pub all_erase : {A : Type 0} (key : A → ℕ) (P : A → Type 0) (k : ℕ) (xs : List A) → All P xs → All P (erase key k xs)
all_erase key P k [] h = h
all_erase key P k (x ∷ xs) h = let t : All P xs = all_tail P x xs h in all_choice P x xs (erase key k xs) (key x == k) t (λ _. all_erase key P k xs t) (λ _. all_head P x xs h)

found_first : {A : Type 0} (x : A) (rest : Option A) (b : Bool) → b ≡ true → (if b then Some x else rest) ≡ Some x
found_first x rest b e = rw e refl

found_later : {A : Type 0} (x : A) (rest : Option A) (b : Bool) → b ≡ false → (if b then Some x else rest) ≡ rest
found_later x rest b e = rw e refl

-- an edit of the item of a number, at which what holds goes over into what holds
pub all_edit : {A : Type 0} (key : A → ℕ) (P : A → Type 0) (k : ℕ) (f : A → A) (xs : List A) → ((x : A) → find key k xs ≡ Some x → P x → P (f x)) → All P xs → All P (edit key k f xs)
all_edit key P k f [] step h = h
all_edit key P k f (x ∷ xs) step h =
    let t : All P xs = all_tail P x xs h in
    let p : P x = all_head P x xs h in
    all_step P x (f x) xs (edit key k f xs) (key x == k)
    (λ e. step x (found_first x (find key k xs) (key x == k) e) p)
    (λ _. t)
    (λ e. all_edit key P k f xs (λ y g. step y (rw (found_later x (find key k xs) (key x == k) e) g)) t)
    (λ _. p)

pub all_map : {A B : Type 0} (P : A → Type 0) (Q : B → Type 0) (f : A → B) (xs : List A) → ((x : A) → P x → Q (f x)) → All P xs → All Q (map f xs)
all_map P Q f [] step h = none_left Q
all_map P Q f (x ∷ xs) step h = more Q (f x) (map f xs) (step x (all_head P x xs h)) (all_map P Q f xs step (all_tail P x xs h))

filter_go : {A : Type 0} (P : A → Type 0) (x : A) (xs : List A) (b : Bool) → P x → All P xs → All P (if b then x ∷ xs else xs)
filter_go P x xs true p h = more P x xs p h
filter_go P x xs false p h = h

pub all_filter : {A : Type 0} (P : A → Type 0) (p : A → Bool) (xs : List A) → All P xs → All P (filter p xs)
all_filter P p [] h = h
all_filter P p (x ∷ xs) h = let t : All P xs = all_tail P x xs h in filter_go P x (filter p xs) (p x) (all_head P x xs h) (all_filter P p xs t)

pub all_same : {A : Type 0} (P Q : A → Type 0) (xs : List A) → ((x : A) → P x → Q x) → All P xs → All Q xs
all_same P Q xs step h = λ i d lt. step _ (h i d lt)
