-- Distinct numbers below a bound are at most so many.
use Rattle.std.proofs.Common.{◌≡◌, ◌≢◌, ℕ, zero, suc, ◌+◌, ◌<◌, ◌≤◌, ◌==◌, if◌then◌else◌, Bool, true, false, List, [], ◌∷◌, take, get_or, None, All, length, refl, sym, ap, subst, ◌∙◌, arith}
use Rattle.std.specs.Prelude.{count_by}
use Rattle.std.proofs.lemmas.List.Sums.{count_by_more_yes, count_by_more_no}
use Rattle.nm_view.specs.Lists.{find, erase, Once}
use Rattle.nm_view.proofs.Items.{all_head, all_tail, all_erase, all_same, more, none_left}
use Rattle.nm_view.proofs.Finds.{once_erase, length_erased}

-- Distinct numbers below n are at most n.

without : {A : Type 0} (key : A → ℕ) (n : ℕ) (x : A) (xs : List A) → find key n (x ∷ xs) ≡ None → find key n xs ≡ None
without key n x xs f = grind arith

other : {A : Type 0} (key : A → ℕ) (n : ℕ) (x : A) (xs : List A) → find key n (x ∷ xs) ≡ None → key x < suc n → key x < n
other key n x xs f lt = grind arith

-- numbers below n + 1 of which none is n
lower : {A : Type 0} (key : A → ℕ) (n : ℕ) (xs : List A) → find key n xs ≡ None → All (λ x. key x < suc n) xs → All (λ x. key x < n) xs
lower key n [] f h = none_left (λ x. key x < n)
lower key n (x ∷ xs) f h = more (λ y. key y < n) x xs (other key n x xs f (all_head (λ y. key y < suc n) x xs h)) (lower key n xs (without key n x xs f) (all_tail (λ y. key y < suc n) x xs h))

erased_go : {A : Type 0} (key : A → ℕ) (n : ℕ) (x : A) (xs : List A) (b : Bool) → (key x == n) ≡ b → find key (key x) xs ≡ None → key x < suc n → All (λ y. key y < suc n) xs → All (λ y. key y < n) (erase key n xs) → All (λ y. key y < n) (if b then xs else x ∷ erase key n xs)
erased_go key n x xs true e f lt h r = let is : key x ≡ n = grind arith in lower key n xs (rw (sym is) f) h
erased_go key n x xs false e f lt h r = let less : key x < n = grind arith in more (λ y. key y < n) x (erase key n xs) less r

erased_below : {A : Type 0} (key : A → ℕ) (n : ℕ) (xs : List A) → Once key xs → All (λ x. key x < suc n) xs → All (λ x. key x < n) (erase key n xs)
erased_below key n [] o h = none_left (λ x. key x < n)
erased_below key n (x ∷ xs) o h =
    let t : All (λ y. key y < suc n) xs = all_tail (λ y. key y < suc n) x xs h in
    erased_go key n x xs (key x == n) refl o.0 (all_head (λ y. key y < suc n) x xs h) t (erased_below key n xs o.1 t)

pub pigeon : {A : Type 0} (key : A → ℕ) (n : ℕ) (xs : List A) → Once key xs → All (λ x. key x < n) xs → length xs ≤ n
pigeon key n [] o h = omega arith
pigeon key zero (x ∷ xs) o h = let bad : ⊥ = omega (arith, all_head (λ y. key y < 0) x xs h) in absurd bad
pigeon key (suc n) (x ∷ xs) o h = let rest : length (erase key n (x ∷ xs)) ≤ n = pigeon key n (erase key n (x ∷ xs)) (once_erase key n (x ∷ xs) o) (erased_below key n (x ∷ xs) o h) in omega (arith, rest, length_erased key n (x ∷ xs))

-- Distinct places of a list whose items pass a test are no more than the items that pass it.

-- the item at the place that is x's number passes the test, and lies below n
pub record IsAmong {A B : Type 0} (key : A → ℕ) (p : B → Bool) (bs : List B) (d : B) (n : ℕ) (x : A) : Type 0 where
  pub below : key x < n
  pub passes : p (get_or bs (key x) d) ≡ true

lower_place : {A B : Type 0} (key : A → ℕ) (p : B → Bool) (bs : List B) (d : B) (n : ℕ) (x : A) (t : Bool) → (key x == n) ≡ t → p (get_or bs n d) ≡ false → IsAmong key p bs d (suc n) x → key x < n
lower_place key p bs d n x true e fails is = let same : key x ≡ n = grind (arith, e) in let bad : true ≡ false = sym is.passes ∙ ap (λ k. p (get_or bs k d)) same ∙ fails in absurd (cc)
lower_place key p bs d n x false e fails is = let apart : key x ≢ n = grind (arith, e) in omega (arith, apart, is.below)

pigeon_step : {A B : Type 0} (key : A → ℕ) (p : B → Bool) (bs : List B) (d : B) (n : ℕ) (xs : List A) → n < length bs → ((ys : List A) → Once key ys → All (IsAmong key p bs d n) ys → length ys ≤ count_by p (take n bs))
    → Once key xs → All (IsAmong key p bs d (suc n)) xs → (t : Bool) → p (get_or bs n d) ≡ t → length xs ≤ count_by p (take (n + 1) bs)
pigeon_step key p bs d n xs lt rest o h true e =
    let below : All (λ x. key x < n) (erase key n xs) = erased_below key n xs o (all_same (IsAmong key p bs d (suc n)) (λ x. key x < suc n) xs (λ x i. i.below) h) in
    let among : All (IsAmong key p bs d (suc n)) (erase key n xs) = all_erase key (IsAmong key p bs d (suc n)) n xs h in
    let less : length (erase key n xs) ≤ count_by p (take n bs) = rest (erase key n xs) (once_erase key n xs o) (λ i z k. record { below = below i z k; passes = (among i z k).passes }) in
    omega (arith, less, length_erased key n xs, count_by_more_yes p bs n d lt e)
pigeon_step key p bs d n xs lt rest o h false e =
    let less : length xs ≤ count_by p (take n bs) = rest xs o (all_same (IsAmong key p bs d (suc n)) (IsAmong key p bs d n) xs (λ x i. record { below = lower_place key p bs d n x (key x == n) refl e i; passes = i.passes }) h) in
    omega (arith, less, count_by_more_no p bs n d lt e)

pub pigeon_among : {A B : Type 0} (key : A → ℕ) (p : B → Bool) (bs : List B) (d : B) (n : ℕ) (xs : List A) → n ≤ length bs → Once key xs → All (IsAmong key p bs d n) xs → length xs ≤ count_by p (take n bs)
pigeon_among key p bs d zero xs lt o h = let none : length xs ≤ 0 = pigeon key zero xs o (all_same (IsAmong key p bs d zero) (λ x. key x < zero) xs (λ x i. i.below) h) in omega (arith, none)
pigeon_among key p bs d (suc n) xs lt o h =
    let few : length xs ≤ count_by p (take (n + 1) bs) = pigeon_step key p bs d n xs (omega (arith, lt)) (λ ys oys hys. pigeon_among key p bs d n ys (omega (arith, lt)) oys hys) o h (p (get_or bs n d)) refl in
    let next : n + 1 ≡ suc n = omega arith in
    let P : ℕ → Type 0 = λ k. length xs ≤ count_by p (take k bs) in
    subst P next few
