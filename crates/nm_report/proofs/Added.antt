-- Where no line is an await, the accesses are the loads and the stores.
use Rattle.std.proofs.Common.{◌≡◌, ℕ, zero, suc, ◌+◌, ◌≤◌, Bool, List, [], ◌∷◌, length, get_or, refl, arith}
use Rattle.std.specs.Prelude.{count_by, sum_by, cond}
use Rattle.std.specs.List.{AllByRecursion}
use Rattle.std.proofs.lemmas.List.Sums.{sum_by-cons}
use Rattle.nm_script.specs.declared.script.Line.{Line}
use Rattle.nm_script.specs.declared.script.Line.TheVariants.{Load, Store, Add, Await}
use Rattle.nm_report.specs.declared.line_result.LineResult.{LineResult}
use Rattle.nm_report.specs.declared.line_result.LineResult.TheVariants.{Loaded, Stored, Added, Met, Missed}
use Rattle.nm_report.specs.Plain.{Report}
use Rattle.nm_report.specs.Texts.{IsResultOf, AllFit, EachFits, IsPrintable}
use Rattle.nm_report.specs.Summary.{is_load, is_store, AddsUp, IsNoAwait, HasNoAwait}

-- a result that fits a line other than an await is a load or a store
one-kind : (l : Line) (r : LineResult) → IsResultOf l r → IsNoAwait l → cond (is_load r) 1 0 + cond (is_store r) 1 0 ≡ 1
one-kind (Load v w) (Loaded x) fit none = refl
one-kind (Load v w) Stored fit none = absurd fit
one-kind (Load v w) (Added y) fit none = absurd fit
one-kind (Load v w) (Met n) fit none = absurd fit
one-kind (Load v w) (Missed n) fit none = absurd fit
one-kind (Store v w x) (Loaded y) fit none = absurd fit
one-kind (Store v w x) Stored fit none = refl
one-kind (Store v w x) (Added y) fit none = absurd fit
one-kind (Store v w x) (Met n) fit none = absurd fit
one-kind (Store v w x) (Missed n) fit none = absurd fit
one-kind (Add v w x) (Loaded y) fit none = absurd fit
one-kind (Add v w x) Stored fit none = absurd fit
one-kind (Add v w x) (Added y) fit none = refl
one-kind (Add v w x) (Met n) fit none = absurd fit
one-kind (Add v w x) (Missed n) fit none = absurd fit
one-kind (Await v w x max) r fit none = absurd none

more : (p : LineResult → Bool) (r : LineResult) (list : List LineResult) → count_by p (r ∷ list) ≡ cond (p r) 1 0 + count_by p list
more p r list = sum_by-cons (λ x. cond (p x) 1 0) r list

-- one processor's accesses
one-adds-up : (lines : List Line) (list : List LineResult) → AllFit lines list → AllByRecursion IsNoAwait lines → length list ≡ count_by is_load list + count_by is_store list
one-adds-up lines [] fit none = refl
one-adds-up [] (r ∷ list) fit none = absurd fit
one-adds-up (l ∷ lines) (r ∷ list) fit none =
    omega (arith, one-adds-up lines list fit.1 none.1, one-kind l r fit.0 none.0, more is_load r list, more is_store r list)

all-add-up : (programs : List (List Line)) (results : List (List LineResult)) → length results ≤ length programs → EachFits programs results → HasNoAwait programs → AddsUp results
all-add-up programs [] few fits none = refl
all-add-up [] (list ∷ results) few fits none = absurd (omega (arith, few))
all-add-up (lines ∷ programs) (list ∷ results) few fits none =
    omega (
      arith,
      all-add-up programs results (omega (arith, few)) (λ p. fits (suc p)) none.1,
      one-adds-up lines list (fits zero) none.0,
      sum_by-cons (λ (x : List LineResult). length x) list results,
      sum_by-cons (λ (x : List LineResult). count_by is_load x) list results,
      sum_by-cons (λ (x : List LineResult). count_by is_store x) list results,
    )

-- the accesses of a report that has a text
pub adds_up : (r : Report) → IsPrintable r → HasNoAwait r.script.programs → AddsUp r.results
adds_up r printable none = all-add-up r.script.programs r.results (omega (arith, printable.programs, printable.results)) printable.fits none
