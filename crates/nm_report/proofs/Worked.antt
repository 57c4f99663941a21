-- Worked values: an await that missed after five loads, one that was met by its first load, and one that was cut.
use Rattle.std.proofs.Common.{ℕ, [], ◌∷◌, refl, arith}
use Rattle.nm_flat.specs.declared.access.Access.{Access}
use Rattle.nm_flat.specs.declared.access.AccessKind.TheVariants as kind
use Rattle.nm_script.specs.declared.script.Line.TheVariants.{Await}
use Rattle.nm_report.specs.declared.line_result.LineResult.TheVariants.{Met, Missed}
use Rattle.nm_report.specs.Follows.{access_made, IsPiece, IsCutLine}

abbrev load : ℕ → ℕ → ℕ → Access
load p v x = access_made p v 0 (kind.Load x)

missed : IsPiece 0 (Await 1 0 1 5) (Missed 5) (load 0 1 0 ∷ load 0 1 0 ∷ load 0 1 0 ∷ load 0 1 0 ∷ load 0 1 0 ∷ [])
missed = record { values = 0 ∷ 0 ∷ 0 ∷ 0 ∷ 0 ∷ []; is = refl; others = ((λ e. cc e), ((λ e. cc e), ((λ e. cc e), ((λ e. cc e), ((λ e. cc e), tt))))); count = refl; most = refl }

met : IsPiece 1 (Await 0 0 1 5) (Met 1) (load 1 0 1 ∷ [])
met = record { earlier = []; is = refl; others = tt; count = refl; most = omega arith }

cut : IsCutLine 0 (Await 1 0 1 5) (load 0 1 0 ∷ load 0 1 0 ∷ [])
cut = record { values = 0 ∷ 0 ∷ []; is = refl; others = ((λ e. cc e), ((λ e. cc e), tt)); fewer = omega arith }
