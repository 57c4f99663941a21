-- The results with which accesses follow a program fit the program.
use Rattle.std.proofs.Common.{ℕ, List, [], ◌∷◌}
use Rattle.nm_flat.specs.declared.access.Access.{Access}
use Rattle.nm_script.specs.declared.script.Line.{Line}
use Rattle.nm_script.specs.declared.script.Line.TheVariants.{Load, Store, Add, Await}
use Rattle.nm_report.specs.declared.line_result.LineResult.{LineResult}
use Rattle.nm_report.specs.declared.line_result.LineResult.TheVariants.{Loaded, Stored, Added, Met, Missed}
use Rattle.nm_report.specs.Texts.{IsResultOf, AllFit}
use Rattle.nm_report.specs.Follows.{IsPiece, AreMade}

IsResultOf-piece : (p : ℕ) (l : Line) (r : LineResult) (piece : List Access) → IsPiece p l r piece → IsResultOf l r
IsResultOf-piece p (Load v w) (Loaded x) piece h = tt
IsResultOf-piece p (Load v w) Stored piece h = absurd h
IsResultOf-piece p (Load v w) (Added y) piece h = absurd h
IsResultOf-piece p (Load v w) (Met n) piece h = absurd h
IsResultOf-piece p (Load v w) (Missed n) piece h = absurd h
IsResultOf-piece p (Store v w x) (Loaded y) piece h = absurd h
IsResultOf-piece p (Store v w x) Stored piece h = tt
IsResultOf-piece p (Store v w x) (Added y) piece h = absurd h
IsResultOf-piece p (Store v w x) (Met n) piece h = absurd h
IsResultOf-piece p (Store v w x) (Missed n) piece h = absurd h
IsResultOf-piece p (Add v w x) (Loaded y) piece h = absurd h
IsResultOf-piece p (Add v w x) Stored piece h = absurd h
IsResultOf-piece p (Add v w x) (Added y) piece h = tt
IsResultOf-piece p (Add v w x) (Met n) piece h = absurd h
IsResultOf-piece p (Add v w x) (Missed n) piece h = absurd h
IsResultOf-piece p (Await v w x max) (Loaded y) piece h = absurd h
IsResultOf-piece p (Await v w x max) Stored piece h = absurd h
IsResultOf-piece p (Await v w x max) (Added y) piece h = absurd h
IsResultOf-piece p (Await v w x max) (Met n) piece h = tt
IsResultOf-piece p (Await v w x max) (Missed n) piece h = tt

-- results that split a list of accesses into pieces fit the lines
pub AllFit-made : (p : ℕ) (lines : List Line) (results : List LineResult) (list : List Access) → AreMade p lines results list → AllFit lines results
AllFit-made p lines [] list made = tt
AllFit-made p [] (r ∷ results) list made = absurd made
AllFit-made p (l ∷ lines) (r ∷ results) list made = (IsResultOf-piece p l r made.piece made.made, AllFit-made p lines results made.rest made.follows)
