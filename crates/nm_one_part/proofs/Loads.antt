-- Loads of a word, of which the last gives a value or none does, are told apart from what comes after them.
use Rattle.std.proofs.Common.{◌≡◌, ℕ, suc, ◌+◌, ◌<◌, ◌≤◌, List, [], ◌∷◌, ◌++◌, length, refl, sym, ap, arith}
use Rattle.nm_flat.specs.declared.access.Access.{Access}
use Rattle.nm_flat.specs.declared.access.AccessKind.TheVariants as kind
use Rattle.nm_report.specs.Follows.{access_made, loads_of, AllOther}

pub first-and-rest : (a b : Access) (rest more : List Access) → a ∷ rest ≡ b ∷ more → (a ≡ b) × (rest ≡ more)
first-and-rest a b rest more is = (cc, cc)

pub not-empty : (a : Access) (rest : List Access) → ¬ ([] ≡ a ∷ rest)
not-empty a rest is = cc

load-kinds : (x y : ℕ) → kind.Load x ≡ kind.Load y → x ≡ y
load-kinds x y is = cc

-- two loads of a word that are the same gave the same value
pub same-load : (p v w x y : ℕ) → access_made p v w (kind.Load x) ≡ access_made p v w (kind.Load y) → x ≡ y
same-load p v w x y is = load-kinds x y (ap (λ (a : Access). a.kind) is)

-- both give the value at last
pub both-met : (p v w x : ℕ) (earlier before : List ℕ) (rest more : List Access) → AllOther x earlier → AllOther x before → loads_of p v w (earlier ++ x ∷ []) ++ rest ≡ loads_of p v w (before ++ x ∷ []) ++ more → (length earlier ≡ length before) × (rest ≡ more)
both-met p v w x [] [] rest more others other is = (refl, (first-and-rest _ _ rest more is).1)
both-met p v w x [] (b ∷ before) rest more others other is = absurd (other.0 (sym (same-load p v w x b (first-and-rest _ _ rest (loads_of p v w (before ++ x ∷ []) ++ more) is).0)))
both-met p v w x (a ∷ earlier) [] rest more others other is = absurd (others.0 (same-load p v w a x (first-and-rest _ _ (loads_of p v w (earlier ++ x ∷ []) ++ rest) more is).0))
both-met p v w x (a ∷ earlier) (b ∷ before) rest more others other is =
    let h = both-met p v w x earlier before rest more others.1 other.1 (first-and-rest _ _ (loads_of p v w (earlier ++ x ∷ []) ++ rest) (loads_of p v w (before ++ x ∷ []) ++ more) is).1 in
    (ap (λ (n : ℕ). suc n) h.0, h.1)

-- one gives the value at last, and the other goes on without it
pub met-not-missed : (p v w x : ℕ) (earlier values : List ℕ) (rest more : List Access) → AllOther x earlier → AllOther x values → length earlier + 1 ≤ length values → loads_of p v w (earlier ++ x ∷ []) ++ rest ≡ loads_of p v w values ++ more → ⊥
met-not-missed p v w x [] [] rest more others other few is = omega (arith, few)
met-not-missed p v w x [] (b ∷ values) rest more others other few is = other.0 (sym (same-load p v w x b (first-and-rest _ _ rest (loads_of p v w values ++ more) is).0))
met-not-missed p v w x (a ∷ earlier) [] rest more others other few is = omega (arith, few)
met-not-missed p v w x (a ∷ earlier) (b ∷ values) rest more others other few is =
    met-not-missed p v w x earlier values rest more others.1 other.1 (omega (arith, few)) (first-and-rest _ _ (loads_of p v w (earlier ++ x ∷ []) ++ rest) (loads_of p v w values ++ more) is).1

-- as many loads
pub both-missed : (p v w : ℕ) (values others : List ℕ) (rest more : List Access) → length values ≡ length others → loads_of p v w values ++ rest ≡ loads_of p v w others ++ more → rest ≡ more
both-missed p v w [] [] rest more many is = is
both-missed p v w [] (b ∷ others) rest more many is = absurd (omega (arith, many))
both-missed p v w (a ∷ values) [] rest more many is = absurd (omega (arith, many))
both-missed p v w (a ∷ values) (b ∷ others) rest more many is = both-missed p v w values others rest more (omega (arith, many)) (first-and-rest _ _ (loads_of p v w values ++ rest) (loads_of p v w others ++ more) is).1

-- loads that end before the value
pub cut-not-met : (p v w x : ℕ) (values earlier : List ℕ) (rest : List Access) → AllOther x values → loads_of p v w values ≡ loads_of p v w (earlier ++ x ∷ []) ++ rest → ⊥
cut-not-met p v w x [] [] rest others is = not-empty _ rest is
cut-not-met p v w x [] (b ∷ earlier) rest others is = not-empty _ (loads_of p v w (earlier ++ x ∷ []) ++ rest) is
cut-not-met p v w x (a ∷ values) [] rest others is = others.0 (same-load p v w a x (first-and-rest _ _ (loads_of p v w values) rest is).0)
cut-not-met p v w x (a ∷ values) (b ∷ earlier) rest others is = cut-not-met p v w x values earlier rest others.1 (first-and-rest _ _ (loads_of p v w values) (loads_of p v w (earlier ++ x ∷ []) ++ rest) is).1

-- fewer loads
pub cut-not-missed : (p v w : ℕ) (values others : List ℕ) (rest : List Access) → length values < length others → loads_of p v w values ≡ loads_of p v w others ++ rest → ⊥
cut-not-missed p v w [] [] rest fewer is = omega (arith, fewer)
cut-not-missed p v w [] (b ∷ others) rest fewer is = not-empty _ (loads_of p v w others ++ rest) is
cut-not-missed p v w (a ∷ values) [] rest fewer is = omega (arith, fewer)
cut-not-missed p v w (a ∷ values) (b ∷ others) rest fewer is = cut-not-missed p v w values others rest (omega (arith, fewer)) (first-and-rest _ _ (loads_of p v w values) (loads_of p v w others ++ rest) is).1
