-- The first line in which two texts differ.
use Rattle.std.specs.Prelude.{◌≡◌, ◌≢◌, ℕ, List, [], ◌∷◌, ◌++◌, length}
use Rattle.std.specs.List.{AllByRecursion}
use Rattle.nm_text.specs.Cuts.{Lacks}
use Rattle.nm_journal_text.specs.Verdicts.{joined}

-- n lines of a text are those of another, and the next one is not: it is none of the other, or lacks its newline, or there is none
pub record IsDifferentAt (told text : List ℕ) (n : ℕ) : Type 0 where
  pub front : List (List ℕ)
  pub tail : List ℕ
  pub rest : List ℕ
  pub lines : AllByRecursion (Lacks 10) front
  pub told_is : told ≡ joined front ++ tail
  pub text_is : text ≡ joined front ++ rest
  pub count : n ≡ length front
  pub differ : (l more m : List ℕ) → Lacks 10 l → rest ≡ l ++ 10 ∷ more → tail ≢ l ++ 10 ∷ m
  pub short : rest ≡ [] → tail ≢ []

-- n lines of both are the same
pub record AreSameTo (told text tail rest : List ℕ) (n : ℕ) : Type 0 where
  pub front : List (List ℕ)
  pub lines : AllByRecursion (Lacks 10) front
  pub told_is : told ≡ joined front ++ tail
  pub text_is : text ≡ joined front ++ rest
  pub count : n ≡ length front
