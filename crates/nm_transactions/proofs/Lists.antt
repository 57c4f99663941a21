-- Lists that grow by one item at the end: what some item is of, where they are cut, and the first item of a kind.
use Rattle.std.proofs.Common.{◌≡◌, ◌<◌, List, [], ◌∷◌, ◌++◌, length, get_or, All, refl, sym, subst, ◌∙◌, ◌⊎◌, inl, inr, arith}
use Rattle.std.specs.Prelude.{Any}
use Rattle.std.proofs.lemmas.Bool.{cases_lt}
use Rattle.std.proofs.lemmas.Grind.{common_steps}
use Rattle.nm_view.proofs.Items.{all_head, all_tail}

pub any_nil : {A : Type 0} (P : A → Type 0) → Any P [] → ⊥
any_nil P h = omega (arith, h.2)

-- some item of a list is one of a longer list
pub any_longer : {A : Type 0} (P : A → Type 0) (xs ys : List A) → Any P xs → Any P (xs ++ ys)
any_longer P xs ys h =
    let lt : h.0 < length (xs ++ ys) = grind (arith, common_steps, h.2) in
    let same : get_or (xs ++ ys) h.0 h.1 ≡ h.1 = grind (arith, common_steps, h.2, h.3) in
    (h.0, h.1, lt, same, h.4)

-- some item of a list that grew is one of the list before, or the last
pub any_before : {A : Type 0} (P : A → Type 0) (xs : List A) (y : A) → Any P (xs ++ y ∷ []) → Any P xs ⊎ P y
any_before P xs y h =
    elim (cases_lt h.0 (length xs)) [
      | inl lt ↦
          let same : get_or xs h.0 h.1 ≡ h.1 = grind (arith, common_steps, lt, h.3) in
          inl (h.0, h.1, lt, same, h.4)
      | inr past ↦
          let at : get_or (xs ++ y ∷ []) h.0 h.1 ≡ y = grind (arith, common_steps, past, h.2) in
          inr (subst P (sym h.3 ∙ at) h.4)
    ]

-- where no item is so, each is not
pub all_from_none : {A : Type 0} (P : A → Type 0) (xs : List A) → (Any P xs → ⊥) → All (λ x. ¬ P x) xs
all_from_none P xs none k d lt h =
    let same : get_or xs k (get_or xs k d) ≡ get_or xs k d = grind (arith, common_steps, lt) in
    none (k, get_or xs k d, lt, same, h)

-- a list that grew is cut behind its last item, or before it
pub cut : {A : Type 0} (xs : List A) (y : A) (front rest : List A) → xs ++ y ∷ [] ≡ front ++ rest → (rest ≡ []) ⊎ ((tail : List A) × (rest ≡ tail ++ y ∷ []) × (xs ≡ front ++ tail))
cut [] y [] rest e = inr ([], sym e, refl)
cut [] y (f ∷ front) [] e = inl refl
cut [] y (f ∷ []) (r ∷ rest) e = absurd cc
cut [] y (f ∷ h ∷ front) (r ∷ rest) e = absurd cc
cut (x ∷ xs) y [] rest e = inr (x ∷ xs, sym e, refl)
cut (x ∷ xs) y (f ∷ front) rest e =
    let head : x ≡ f = cc in
    let after : xs ++ y ∷ [] ≡ front ++ rest = cc in
    elim (cut xs y front rest after) [
      | inl none ↦ inl none
      | inr more ↦ inr (more.0, more.1, let same : xs ≡ front ++ more.0 = more.2 in cc)
    ]

-- what follows the first item of a kind
pub record SameRest {A : Type 0} (e f : A) (after rest : List A) : Type 0 where
  pub item : e ≡ f
  pub left : after ≡ rest

-- the first item of a kind is one item, and what follows it is one list
pub same_first : {A : Type 0} (P : A → Type 0) (before front : List A) (e f : A) (after rest : List A) → before ++ e ∷ after ≡ front ++ f ∷ rest → P e → P f → All (λ x. ¬ P x) before → All (λ x. ¬ P x) front → SameRest e f after rest
same_first P [] [] e f after rest same p q none also = record { item = cc; left = cc }
same_first P [] (y ∷ front) e f after rest same p q none also = let head : e ≡ y = cc in absurd (all_head (λ x. ¬ P x) y front also (subst P head p))
same_first P (x ∷ before) [] e f after rest same p q none also = let head : f ≡ x = cc in absurd (all_head (λ x. ¬ P x) x before none (subst P head q))
same_first P (x ∷ before) (y ∷ front) e f after rest same p q none also =
    let tail : before ++ e ∷ after ≡ front ++ f ∷ rest = cc in
    same_first P before front e f after rest tail p q (all_tail (λ x. ¬ P x) x before none) (all_tail (λ x. ¬ P x) y front also)

-- a list that has an item of a kind has not none
pub not_none_of : {A : Type 0} (P : A → Type 0) (before : List A) (e : A) (after : List A) → P e → All (λ x. ¬ P x) (before ++ e ∷ after) → ⊥
not_none_of P [] e after p none = all_head (λ x. ¬ P x) e after none p
not_none_of P (x ∷ before) e after p none = not_none_of P before e after p (all_tail (λ x. ¬ P x) x (before ++ e ∷ after) none)
