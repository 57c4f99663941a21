-- Lists by numbers: an item at the end, and an item that is put and taken out again; and the virtual pages of a page.
use Rattle.std.proofs.Common.{◌≡◌, ◌≢◌, ℕ, List, [], ◌∷◌, ◌++◌, All, Option, Some, None, IsSomeAnd, refl, ap, ◌∙◌, subst, arith}
use Rattle.nm_view.specs.Lists.{find, edit, erase, put}
use Rattle.nm_view.specs.declared.view.Fill.{Fill}
use Rattle.nm_view.specs.declared.view.Owned.{Owned}
use Rattle.nm_view.specs.Operations.{owned_frame}
use Rattle.nm_view.proofs.Finds.{find_join, find_put_other}
use Rattle.nm_view.proofs.Items.{all_head, all_tail, more, none_left}
use Rattle.nm_view.proofs.Places.{put-new}
use Rattle.nm_event.specs.After.{owning}

-- An item at the end.

pub find-last : {A : Type 0} (key : A → ℕ) (k : ℕ) (y : A) (xs : List A) → find key k xs ≡ None → key y ≡ k → find key k (xs ++ y ∷ []) ≡ Some y
find-last key k y xs fresh is =
    let P : ℕ → Type 0 = λ n. find key n xs ≡ None → find key n (xs ++ y ∷ []) ≡ Some y in
    subst P is (find_join key y xs) fresh

pub edit-last : {A : Type 0} (key : A → ℕ) (k : ℕ) (f : A → A) (y : A) (xs : List A) → find key k xs ≡ None → key y ≡ k → edit key k f (xs ++ y ∷ []) ≡ xs ++ f y ∷ []
edit-last key k f y [] fresh is = grind arith
edit-last key k f y (x ∷ xs) fresh is = grind (arith, edit-last key k f y xs)

pub erase-last : {A : Type 0} (key : A → ℕ) (k : ℕ) (y : A) (xs : List A) → find key k xs ≡ None → key y ≡ k → erase key k (xs ++ y ∷ []) ≡ xs
erase-last key k y [] fresh is = grind arith
erase-last key k y (x ∷ xs) fresh is = grind (arith, erase-last key k y xs)

-- an item that is put where there is none of its number, and taken out again
pub erase-put : {A : Type 0} (key : A → ℕ) (y : A) (xs : List A) → find key (key y) xs ≡ None → erase key (key y) (put key y xs) ≡ xs
erase-put key y xs fresh = ap (erase key (key y)) (put-new key y xs fresh) ∙ erase-last key (key y) y xs fresh refl

-- a frame that is owned for a while
pub owning-erased : (frame : ℕ) (fill : Fill) (owned : List Owned) → find owned_frame frame owned ≡ None → erase owned_frame frame (owning frame fill owned) ≡ owned
owning-erased frame fill owned fresh = erase-put owned_frame (record { frame = frame; fill = fill }) owned fresh

-- another frame is not owned by that
pub owning-other : (frame other : ℕ) (fill : Fill) (owned : List Owned) → frame ≢ other → find owned_frame other owned ≡ None → find owned_frame other (owning frame fill owned) ≡ None
owning-other frame other fill owned apart fresh = find_put_other owned_frame (record { frame = frame; fill = fill }) other owned apart ∙ fresh

-- What is found.

pub some-and : {A : Type 0} (P : A → Type 0) (o : Option A) (x : A) → o ≡ Some x → P x → IsSomeAnd o P
some-and P o x e p = rw e p

-- What holds of all items.

pub all-front : {A : Type 0} (P : A → Type 0) (xs : List A) (y : A) → All P (xs ++ y ∷ []) → All P xs
all-front P [] y h = none_left P
all-front P (x ∷ xs) y h = more P x xs (all_head P x (xs ++ y ∷ []) h) (all-front P xs y (all_tail P x (xs ++ y ∷ []) h))
