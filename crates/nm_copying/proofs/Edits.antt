-- Edits one after the other, and lists of numbers.
use Rattle.std.proofs.Common.{◌≡◌, ℕ, suc, ◌+◌, ◌-◌, ◌<◌, ◌≤◌, List, [], ◌∷◌, Some, refl, arith}
use Rattle.std.specs.List.{range_with_len}
use Rattle.nm_view.specs.Lists.{find, edit}

-- an edit after an edit of the same number is one edit
pub edit-twice : {A : Type 0} (key : A → ℕ) (k : ℕ) (f h : A → A) (xs : List A) → ((x : A) → key (f x) ≡ key x) → edit key k h (edit key k f xs) ≡ edit key k (λ x. h (f x)) xs
edit-twice key k f h [] same = refl
edit-twice key k f h (x ∷ xs) same = grind (arith, same x, edit-twice key k f h xs same)

-- an edit that changes nothing
pub edit-same : {A : Type 0} (key : A → ℕ) (k : ℕ) (h : A → A) (x : A) (xs : List A) → find key k xs ≡ Some x → h x ≡ x → edit key k h xs ≡ xs
edit-same key k h x [] found same = refl
edit-same key k h x (y ∷ ys) found same = grind (arith, edit-same key k h x ys)

-- the numbers from one that is below the end
pub range-next : (i n : ℕ) → i < n → range_with_len i (n - i) ≡ i ∷ range_with_len (i + 1) (n - (i + 1))
range-next i n h = let e : n - i ≡ suc (n - (i + 1)) = omega arith in rw e refl

-- there are none from the end on
pub range-none : (i n : ℕ) → n ≤ i → range_with_len i (n - i) ≡ []
range-none i n h = let e : n - i ≡ 0 = omega arith in rw e refl
