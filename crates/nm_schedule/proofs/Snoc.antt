-- Lists by their last item.
use Rattle.std.proofs.Common.{◌≡◌, List, [], ◌∷◌, ◌++◌, length, ◌+◌, ◌⊎◌, inl, inr, refl, ap, sym, arith}
use Rattle.std.specs.List.{AllByRecursion}

pub cons-same : {A : Type 0} (x y : A) (xs ys : List A) → x ∷ xs ≡ y ∷ ys → (x ≡ y) × (xs ≡ ys)
cons-same x y xs ys e = (cc, cc)

pub length-snoc : {A : Type 0} (xs : List A) (x : A) → length (xs ++ x ∷ []) ≡ length xs + 1
length-snoc [] x = refl
length-snoc (y ∷ xs) x = omega (arith, length-snoc xs x)

none-snoc : {A : Type 0} (xs : List A) (x : A) → [] ≡ xs ++ x ∷ [] → ⊥
none-snoc xs x e = let l = ap length e in omega (arith, l, length-snoc xs x)

-- two lists with one item more each are the same only where both parts are
pub snoc-same : {A : Type 0} (xs ys : List A) (x y : A) → xs ++ x ∷ [] ≡ ys ++ y ∷ [] → (xs ≡ ys) × (x ≡ y)
snoc-same [] [] x y e = (refl, (cons-same x y [] [] e).0)
snoc-same [] (z ∷ ys) x y e = absurd (none-snoc ys y (cons-same x z [] (ys ++ y ∷ []) e).1)
snoc-same (z ∷ xs) [] x y e = absurd (none-snoc xs x (sym (cons-same z y (xs ++ x ∷ []) [] e).1))
snoc-same {A} (z ∷ xs) (w ∷ ys) x y e =
    let h = cons-same z w (xs ++ x ∷ []) (ys ++ y ∷ []) e in
    let r = snoc-same xs ys x y h.1 in
    let p : z ≡ w = h.0 in
    let q : xs ≡ ys = r.0 in
    ((λ i. p i ∷ q i), r.1)

-- a list has no item, or a last one
pub record HasLast {A : Type 0} (xs : List A) : Type 0 where
  pub front : List A
  pub last : A
  pub is : xs ≡ front ++ last ∷ []

pub last-or-none : {A : Type 0} (xs : List A) → (xs ≡ []) ⊎ HasLast xs
last-or-none [] = inl refl
last-or-none (x ∷ xs) = elim (last-or-none xs) [
  | inl e ↦ inr (record { front = []; last = x; is = ap (λ l. x ∷ l) e })
  | inr h ↦ inr (record { front = x ∷ h.front; last = h.last; is = ap (λ l. x ∷ l) h.is })
]

pub all-snoc : {A : Type 0} (P : A → Type 0) (xs : List A) (x : A) → AllByRecursion P (xs ++ x ∷ []) → AllByRecursion P xs × P x
all-snoc P [] x h = (tt, h.0)
all-snoc P (y ∷ xs) x h = let r = all-snoc P xs x h.1 in ((h.0, r.0), r.1)

pub all-push : {A : Type 0} (P : A → Type 0) (xs : List A) (x : A) → AllByRecursion P xs → P x → AllByRecursion P (xs ++ x ∷ [])
all-push P [] x h p = (p, tt)
all-push P (y ∷ xs) x h p = (h.0, all-push P xs x h.1 p)

pub all-mid : {A : Type 0} (P : A → Type 0) (xs : List A) (x : A) (ys : List A) → AllByRecursion P (xs ++ x ∷ ys) → P x
all-mid P [] x ys h = h.0
all-mid P (y ∷ xs) x ys h = all-mid P xs x ys h.1
