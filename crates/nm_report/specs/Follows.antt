-- A processor's accesses follow its program: each line's accesses in order, with what the line gave.
use Rattle.std.specs.Prelude.{◌≡◌, ◌≢◌, ℕ, ◌+◌, ◌<◌, ◌≤◌, Bool, IsTrue, List, [], ◌∷◌, ◌++◌, length, map}
use Rattle.std.specs.List.{AllByRecursion}
use Rattle.nm_flat.specs.declared.access.Access.{Access}
use Rattle.nm_flat.specs.declared.access.AccessKind.{AccessKind}
use Rattle.nm_flat.specs.declared.access.AccessKind.TheVariants as kind
use Rattle.nm_script.specs.declared.script.Line.{Line}
use Rattle.nm_script.specs.declared.script.Line.TheVariants.{Load, Store, Add, Await}
use Rattle.nm_report.specs.declared.line_result.LineResult.{LineResult}
use Rattle.nm_report.specs.declared.line_result.LineResult.TheVariants.{Loaded, Stored, Added, Met, Missed}

-- an access of processor p to word w of virtual page v
abbrev pub access_made : ℕ → ℕ → ℕ → AccessKind → Access
access_made p v w k = record { cpu = p; vpage = v; word = w; kind = k }

-- loads of processor p of one word that gave these values
abbrev pub loads_of : ℕ → ℕ → ℕ → List ℕ → List Access
loads_of p v w values = map (λ y. access_made p v w (kind.Load y)) values

-- none of the values is x
abbrev pub AllOther : ℕ → List ℕ → Type 0
AllOther x values = AllByRecursion (λ y. y ≢ x) values

-- n loads, 1 to max, of which the last alone gave x
pub record IsMet (p v w x max n : ℕ) (piece : List Access) : Type 0 where
  pub earlier : List ℕ
  pub is : piece ≡ loads_of p v w (earlier ++ x ∷ [])
  pub others : AllOther x earlier
  pub count : length earlier + 1 ≡ n
  pub most : n ≤ max

-- n loads, as many as max, of which none gave x
pub record IsMissed (p v w x max n : ℕ) (piece : List Access) : Type 0 where
  pub values : List ℕ
  pub is : piece ≡ loads_of p v w values
  pub others : AllOther x values
  pub count : length values ≡ n
  pub most : n ≡ max

-- some accesses of processor p are those of a line that gave this
abbrev pub IsPiece : ℕ → Line → LineResult → List Access → Type 0
IsPiece p (Load v w) (Loaded x) piece = piece ≡ access_made p v w (kind.Load x) ∷ []
IsPiece p (Store v w x) Stored piece = piece ≡ access_made p v w (kind.Store x) ∷ []
IsPiece p (Add v w n) (Added y) piece = piece ≡ access_made p v w (kind.Add y n) ∷ []
IsPiece p (Await v w x max) (Met n) piece = IsMet p v w x max n piece
IsPiece p (Await v w x max) (Missed n) piece = IsMissed p v w x max n piece
IsPiece p l r piece = ⊥

-- fewer loads than max, of which none gave x
pub record IsCutAwait (p v w x max : ℕ) (list : List Access) : Type 0 where
  pub values : List ℕ
  pub is : list ≡ loads_of p v w values
  pub others : AllOther x values
  pub fewer : length values < max

-- what stands after the last result: nothing, or the loads of an await that was cut
abbrev pub IsCutLine : ℕ → Line → List Access → Type 0
IsCutLine p (Load v w) list = list ≡ []
IsCutLine p (Store v w x) list = list ≡ []
IsCutLine p (Add v w x) list = list ≡ []
IsCutLine p (Await v w x max) list = IsCutAwait p v w x max list

abbrev pub IsCut : ℕ → List Line → List Access → Type 0
IsCut p [] list = list ≡ []
IsCut p (l ∷ lines) list = IsCutLine p l list

-- a front of the list is of its line, and the rest meets a fact
pub record IsSplit (p : ℕ) (l : Line) (r : LineResult) (Rest : List Access → Type 0) (list : List Access) : Type 0 where
  pub piece : List Access
  pub rest : List Access
  pub is : list ≡ piece ++ rest
  pub made : IsPiece p l r piece
  pub follows : Rest rest

-- the list splits into a piece for each result, in order, and what was cut
abbrev pub AreMade : ℕ → List Line → List LineResult → List Access → Type 0
AreMade p lines [] list = IsCut p lines list
AreMade p [] (r ∷ results) list = ⊥
AreMade p (l ∷ lines) (r ∷ results) list = IsSplit p l r (AreMade p lines results) list

-- the accesses of processor p follow its program with these results: every line has a result where the processor ended
pub record FollowsProgram (p : ℕ) (ended : Bool) (program : List Line) (results : List LineResult) (list : List Access) : Type 0 where
  pub pieces : AreMade p program results list
  pub whole : IsTrue ended → length results ≡ length program
