-- Lists of numbers in which no number stands twice.
use Rattle.std.proofs.Common.{◌≡◌, ◌≢◌, ℕ, zero, suc, ◌+◌, ◌<◌, ◌≤◌, ◌==◌, cond, List, [], ◌∷◌, ◌++◌, length, sym, refl, ap, ◌∙◌, subst, eq-eqb, ne_eqb, arith}
use Rattle.std.specs.List.{All, count_by}
use Rattle.std.proofs.lemmas.List.Elements.{All-head, All-tail, All-cons}
use Rattle.std.proofs.lemmas.List.Sums.{sum_by-cons, sum_by-append}
use mathlib.Core.Logic.{dite}
use native.Mathlib.Decide.{ℕ_discrete}
use Rattle.nm_queue.specs.Rules.{HasNoTwice}

-- how often a number stands in a list
abbrev pub times : ℕ → List ℕ → ℕ
times r xs = count_by (λ n. n == r) xs

times_same : (r : ℕ) (xs : List ℕ) → times r (r ∷ xs) ≡ 1 + times r xs
times_same r xs = sum_by-cons (λ n. cond (n == r) 1 0) r xs ∙ ap (λ b. cond b 1 0 + times r xs) (eq-eqb r r refl)

times_else : (r x : ℕ) (xs : List ℕ) → x ≢ r → times r (x ∷ xs) ≡ times r xs
times_else r x xs ne = let first : cond {A = ℕ} (x == r) 1 0 ≡ 0 = ap (λ b. cond {A = ℕ} b 1 0) (ne_eqb x r ne) in let c = sum_by-cons (λ n. cond (n == r) 1 0) x xs in omega arith

pub absent : (r : ℕ) (xs : List ℕ) → All (λ x. x ≢ r) xs → times r xs ≡ 0
absent r [] h = refl
absent r (x ∷ xs) h = times_else r x xs (All-head (λ x. x ≢ r) x xs h) ∙ absent r xs (All-tail (λ x. x ≢ r) x xs h)

-- what holds of all holds of a number that stands in the list
pub counted : (P : ℕ → Type 0) (r : ℕ) (xs : List ℕ) → All P xs → 1 ≤ times r xs → P r
counted P r [] h le = absurd (omega arith)
counted P r (x ∷ xs) h le = dite (ℕ_discrete x r) (λ e. subst P e (All-head P x xs h)) (λ ne. let t = times_else r x xs ne in counted P r xs (All-tail P x xs h) (omega arith))

-- the list without a number
abbrev without : ℕ → List ℕ → List ℕ
without m [] = []
without m (x ∷ xs) = cond (x == m) (without m xs) (x ∷ without m xs)

without_same : (m : ℕ) (xs : List ℕ) → without m (m ∷ xs) ≡ without m xs
without_same m xs = ap (λ b. cond b (without m xs) (m ∷ without m xs)) (eq-eqb m m refl)

without_else : (m x : ℕ) (xs : List ℕ) → x ≢ m → without m (x ∷ xs) ≡ x ∷ without m xs
without_else m x xs ne = ap (λ b. cond b (without m xs) (x ∷ without m xs)) (ne_eqb x m ne)

shorter : (m : ℕ) (xs : List ℕ) → length xs ≡ length (without m xs) + times m xs
shorter m [] = refl
shorter m (x ∷ xs) = let again = shorter m xs in dite (ℕ_discrete x m)
    (λ e. let a : length (without m (x ∷ xs)) ≡ length (without m xs) = subst (λ y. length (without m (y ∷ xs)) ≡ length (without m xs)) (sym e) (ap length (without_same m xs)) in
    let b : times m (x ∷ xs) ≡ 1 + times m xs = subst (λ y. times m (y ∷ xs) ≡ 1 + times m xs) (sym e) (times_same m xs) in omega arith)
    (λ ne. let a = ap length (without_else m x xs ne) in let b = times_else m x xs ne in omega arith)

fewer : (r m : ℕ) (xs : List ℕ) → times r (without m xs) ≤ times r xs
fewer r m [] = omega arith
fewer r m (x ∷ xs) = let again = fewer r m xs in let c = sum_by-cons (λ n. cond (n == r) 1 0) x xs in dite (ℕ_discrete x m)
    (λ e. let a : times r (without m (x ∷ xs)) ≡ times r (without m xs) = subst (λ y. times r (without m (y ∷ xs)) ≡ times r (without m xs)) (sym e) (ap (times r) (without_same m xs)) in omega arith)
    (λ ne. let a = ap (times r) (without_else m x xs ne) in let d = sum_by-cons (λ n. cond (n == r) 1 0) x (without m xs) in omega arith)

lower : (m : ℕ) (xs : List ℕ) → All (λ x. x < suc m) xs → All (λ x. x < m) (without m xs)
lower m [] h = λ k d lt. absurd (omega arith)
lower m (x ∷ xs) h = let again = lower m xs (All-tail (λ x. x < suc m) x xs h) in let first = All-head (λ x. x < suc m) x xs h in dite (ℕ_discrete x m)
    (λ e. subst (λ y. All (λ x. x < m) (without m (y ∷ xs))) (sym e) (subst (All (λ x. x < m)) (sym (without_same m xs)) again))
    (λ ne. subst (All (λ x. x < m)) (sym (without_else m x xs ne)) (All-cons (λ x. x < m) x (without m xs) (omega arith) again))

still_once : (m : ℕ) (xs : List ℕ) → HasNoTwice xs → HasNoTwice (without m xs)
still_once m xs h r = let a = fewer r m xs in let b = h r in omega arith

-- at most n numbers are below n
at_most : (n : ℕ) (xs : List ℕ) → HasNoTwice xs → All (λ x. x < n) xs → length xs ≤ n
at_most zero [] h below = omega arith
at_most zero (x ∷ xs) h below = absurd (let a = All-head (λ x. x < 0) x xs below in omega arith)
at_most (suc m) xs h below = let a = at_most m (without m xs) (still_once m xs h) (lower m xs below) in let b = shorter m xs in let c = h m in omega arith

-- and fewer where one is missing
missing : (n : ℕ) (xs : List ℕ) (r : ℕ) → HasNoTwice xs → All (λ x. x < n) xs → r < n → times r xs ≡ 0 → length xs < n
missing zero xs r h below lt none = absurd (omega arith)
missing (suc m) xs r h below lt none = let b = shorter m xs in let once = h m in let f = fewer r m xs in dite (ℕ_discrete r m)
    (λ e. let z : times m xs ≡ 0 = subst (λ y. times y xs ≡ 0) e none in let a = at_most m (without m xs) (still_once m xs h) (lower m xs below) in omega arith)
    (λ ne. let a = missing m (without m xs) r (still_once m xs h) (lower m xs below) (omega arith) (omega arith) in omega arith)

-- n numbers below n are all of these
pub all_there : (n : ℕ) (xs : List ℕ) (r : ℕ) → HasNoTwice xs → All (λ x. x < n) xs → length xs ≡ n → r < n → times r xs ≡ 1
all_there n xs r h below long lt = let once = h r in dite (ℕ_discrete (times r xs) 0) (λ z. absurd (let a = missing n xs r h below lt z in omega arith)) (λ nz. omega arith)

-- two lists without a number in common
pub apart : (P : ℕ → ℕ) (a b : ℕ) (xs ys : List ℕ) → a ≢ b → All (λ x. P x ≡ a) xs → All (λ y. P y ≡ b) ys → HasNoTwice xs → HasNoTwice ys → HasNoTwice (xs ++ ys)
apart P a b xs ys ne in_a in_b once_x once_y r = let both = sum_by-append (λ n. cond (n == r) 1 0) xs ys in let x = once_x r in let y = once_y r in dite (ℕ_discrete (times r xs) 0)
    (λ z. omega arith)
    (λ nz. dite (ℕ_discrete (times r ys) 0) (λ z. omega arith)
    (λ nz'. absurd (ne (sym (counted (λ n. P n ≡ a) r xs in_a (omega arith)) ∙ counted (λ n. P n ≡ b) r ys in_b (omega arith)))))
