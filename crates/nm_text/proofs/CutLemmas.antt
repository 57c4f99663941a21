-- What cuts give, and that they find again what was joined.
use Rattle.std.proofs.Common.{◌≡◌, ℕ, suc, ◌+◌, ◌<◌, ◌≤◌, length, take, drop, get_or, nat_lt, ◌==◌, add-one, List, [], ◌∷◌, ◌++◌, Option, Some, None, ◌≢◌, Bor, refl, ap, ◌∙◌, arith, eq-eqb}
use Rattle.std.specs.Prelude.{IfSome, IfNone}
use Rattle.std.specs.Option.{MatchOption}
use Rattle.std.specs.List.{position, position_or_len}
use Rattle.std.proofs.lemmas.Bool.{eqb-true, ltb-true}
use Rattle.std.proofs.lemmas.List.{length-take, get_or-take}
use Rattle.std.proofs.lemmas.List.Folds.{list_any-append, list_any_none}
use Rattle.std.proofs.lemmas.List.Sums.{fails_before_first, passes_at_first}
use Rattle.std.proofs.lemmas.Option.{cond_some}
use Rattle.std.proofs.Math.Seq.{split_at}
use Rattle.nm_text.specs.Cuts.{Lacks, cut_of, strip_of}

-- ---- lists without a byte

-- two lists that lack the byte lack it joined
pub Lacks-append : (at : ℕ) (xs ys : List ℕ) → Lacks at xs → Lacks at ys → Lacks at (xs ++ ys)
Lacks-append at xs ys h k = rw (list_any-append, h, k) refl

-- the parts of a list lack what it lacks
pub Lacks-parts : (at : ℕ) (xs ys : List ℕ) → Lacks at (xs ++ ys) → Lacks at xs × Lacks at ys
Lacks-parts at [] ys h = (refl, h)
Lacks-parts at (x ∷ xs) ys h = grind (arith, Lacks-parts at xs ys)

-- another byte before a list that lacks it
pub Lacks-cons : (at x : ℕ) (xs : List ℕ) → x ≢ at → Lacks at xs → Lacks at (x ∷ xs)
Lacks-cons at x xs other h = grind arith

-- the first byte is another, and the rest lacks it
pub Lacks-first : (at x : ℕ) (xs : List ℕ) → Lacks at (x ∷ xs) → (x ≢ at) × Lacks at xs
Lacks-first at x xs h = grind arith

-- ---- a cut at a byte

-- what was joined by the byte is cut there again
pub cut_of-again : (at : ℕ) (a b : List ℕ) → Lacks at a → cut_of at (a ++ at ∷ b) ≡ Some (a, b)
unfolding cut_of
cut_of-again at [] b h = rw (eq-eqb at at refl) refl
cut_of-again at (x ∷ a) b h = grind (arith, cut_of-again at a b)

-- a list that lacks the byte is not cut
pub cut_of-lacks : (at : ℕ) (xs : List ℕ) → Lacks at xs → cut_of at xs ≡ None
unfolding cut_of
cut_of-lacks at [] h = refl
cut_of-lacks at (x ∷ xs) h = grind (arith, cut_of-lacks at xs)

-- where nothing was cut, the byte does not occur
pub cut_of-none : (at : ℕ) (xs : List ℕ) → cut_of at xs ≡ None → Lacks at xs
unfolding cut_of
cut_of-none at [] e = refl
cut_of-none at (x ∷ xs) e = grind (arith, cut_of-none at xs)

-- the parts of a cut, joined by the byte, are the list, and the first part lacks the byte
pub cut_of-some : (at : ℕ) (xs : List ℕ) (p : List ℕ × List ℕ) → cut_of at xs ≡ Some p → (xs ≡ p.0 ++ at ∷ p.1) × Lacks at p.0
unfolding cut_of
cut_of-some at [] p e = absurd cc
cut_of-some at (x ∷ xs) p e = grind (arith, cut_of-some at xs)

-- the bytes up to the first such byte are others
before_first : (at k : ℕ) (xs : List ℕ) → k ≤ position_or_len (λ x. x == at) xs → Lacks at (take k xs)
before_first at k xs within = list_any_none (λ x. x == at) (take k xs) (λ i d lt.
    let short : i < k = omega (arith, length-take k xs, lt) in
    rw (get_or-take k xs i d short) (fails_before_first (λ x. x == at) xs i d (omega arith)))

-- the cut is at the place of the first such byte
pub cut_of-place : (at place : ℕ) (xs : List ℕ) → position (λ x. x == at) xs ≡ Some place → cut_of at xs ≡ Some (take place xs, drop (place + 1) xs)
cut_of-place at place xs e =
    let first : ℕ = position_or_len (λ x. x == at) xs in
    let found = cond_some (nat_lt first (length xs)) first place e in
    let within : first < length xs = ltb-true _ _ found.0 in
    let byte : get_or xs first 0 ≡ at = eqb-true _ _ (passes_at_first (λ x. x == at) xs 0 within) in
    let whole : xs ≡ take first xs ++ at ∷ drop (first + 1) xs = rw add-one (split_at xs first 0 within ∙ ap (λ (b : ℕ). take first xs ++ b ∷ drop (suc first) xs) byte) in
    rw (← found.1) (ap (cut_of at) whole ∙ cut_of-again at (take first xs) (drop (first + 1) xs) (before_first at first xs (omega arith)))

-- and nothing is cut where there is none
pub cut_of-no_place : (at : ℕ) (xs : List ℕ) → position (λ x. x == at) xs ≡ None → cut_of at xs ≡ None
cut_of-no_place at xs e =
    let first : ℕ = position_or_len (λ x. x == at) xs in
    let past : length xs ≤ first = grind (arith, e) in
    cut_of-lacks at xs (list_any_none (λ x. x == at) xs (λ k d lt. fails_before_first (λ x. x == at) xs k d (omega arith)))

-- ---- a front taken off

-- the front of what was joined is taken off again
pub strip_of-again : (front rest : List ℕ) → strip_of front (front ++ rest) ≡ Some rest
unfolding strip_of
strip_of-again [] rest = refl
strip_of-again (c ∷ front) rest = rw (eq-eqb c c refl) (strip_of-again front rest)

-- what is left after the front, joined to it, is the list
pub strip_of-some : (front xs r : List ℕ) → strip_of front xs ≡ Some r → xs ≡ front ++ r
unfolding strip_of
strip_of-some [] xs r e = grind arith
strip_of-some (c ∷ front) [] r e = absurd cc
strip_of-some (c ∷ front) (x ∷ xs) r e = grind (arith, strip_of-some front xs r)

-- where nothing is left, the list does not begin with the front
pub strip_of-none : (front xs : List ℕ) → strip_of front xs ≡ None → (rest : List ℕ) → xs ≢ front ++ rest
strip_of-none front xs e rest is = let found : strip_of front xs ≡ Some rest = rw is (strip_of-again front rest) in cc

-- a list that does not begin with the front leaves nothing
pub strip_of-apart : (front xs : List ℕ) → ((rest : List ℕ) → xs ≢ front ++ rest) → strip_of front xs ≡ None
strip_of-apart front xs apart = go (strip_of front xs) refl
  where
    go : (r : Option (List ℕ)) → strip_of front xs ≡ r → strip_of front xs ≡ None
    go None e = e
    go (Some rest) e = absurd (apart rest (strip_of-some front xs rest e))

-- what is told of a list's front by an equation, or its lack, is what strip_of gives
pub strip_of-told : (front xs : List ℕ) (r : Option (Bor (List ℕ))) → MatchOption r ((rest : List ℕ) → xs ≢ front ++ rest) (λ rest. xs ≡ front ++ rest.now)
    → IfSome r (λ rest. strip_of front xs ≡ Some rest.now) × IfNone r (strip_of front xs ≡ None)
strip_of-told front xs None apart = (tt, strip_of-apart front xs apart)
strip_of-told front xs (Some rest) is = (rw is (strip_of-again front rest.now), tt)
