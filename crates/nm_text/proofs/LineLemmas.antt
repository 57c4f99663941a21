-- The lines of a text, cut off one by one.
use Rattle.std.proofs.Common.{◌≡◌, ◌≢◌, ℕ, ◌+◌, ◌<◌, ◌==◌, false, List, [], ◌∷◌, ◌++◌, length, Some, None, refl, ap, ◌∙◌, arith, length-append}
use Rattle.nm_text.specs.Cuts.{Lacks, cut_of}
use Rattle.nm_text.proofs.CutLemmas.{Lacks-first, cut_of-some, cut_of-none}
use Rattle.nm_text.specs.Fields.{lines_of}

-- a line and its newline before a text
pub lines-joined : (a b : List ℕ) → Lacks 10 a → lines_of (a ++ 10 ∷ b) ≡ a ∷ lines_of b
lines-joined [] b h = refl
lines-joined (x ∷ a) b h =
    let first = Lacks-first 10 x a h in
    let other : (x == 10) ≡ false = grind arith in
    rw (other, lines-joined a b first.1) refl

-- the line before the first newline, and the lines after it
pub lines-front : (xs : List ℕ) (p : List ℕ × List ℕ) → cut_of 10 xs ≡ Some p → lines_of xs ≡ p.0 ∷ lines_of p.1
lines-front xs p e = let c = cut_of-some 10 xs p e in ap lines_of c.0 ∙ lines-joined p.0 p.1 c.1

lines-alone : (x : ℕ) (xs : List ℕ) → Lacks 10 (x ∷ xs) → lines_of (x ∷ xs) ≡ (x ∷ xs) ∷ []
lines-alone x [] h =
    let first = Lacks-first 10 x [] h in
    let other : (x == 10) ≡ false = grind arith in
    rw other refl
lines-alone x (y ∷ xs) h =
    let first = Lacks-first 10 x (y ∷ xs) h in
    let other : (x == 10) ≡ false = grind arith in
    rw (other, lines-alone y xs first.1) refl

-- a text with no newline is one line
pub lines-last : (xs : List ℕ) → cut_of 10 xs ≡ None → xs ≢ [] → lines_of xs ≡ xs ∷ []
lines-last [] e some = absurd (some refl)
lines-last (x ∷ xs) e some = lines-alone x xs (cut_of-none 10 (x ∷ xs) e)

-- less is left after a line
pub cut-shorter : (xs : List ℕ) (p : List ℕ × List ℕ) → cut_of 10 xs ≡ Some p → length p.1 < length xs
cut-shorter xs p e =
    let c = cut_of-some 10 xs p e in
    let len : length xs ≡ length p.0 + length (10 ∷ p.1) = ap length c.0 ∙ length-append p.0 (10 ∷ p.1) in
    omega (arith, len)
