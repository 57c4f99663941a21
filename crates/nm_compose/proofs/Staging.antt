-- The steps of a plan that goes by stages, each said at its stage alone.
use Rattle.std.proofs.Common.{◌≡◌, sym, subst}
use Rattle.nm_base.specs.Geometry.{Geometry}
use Rattle.nm_view.specs.Views.{View}
use Rattle.nm_action.specs.Own.{Own}
use Rattle.nm_compose.specs.Plans.{IsPieceRun, IsNewRun}
use Rattle.nm_compose.specs.Stages.{Stages, IsPieceAt, RunsAt}

-- what is to be shown after a piece needs to be shown at its stage, with what is known there, and for its end
pub by-stage : {Q S M X O : Type 0} (stages : Stages Q S M X O) (leaves : M → Geometry → View → X → View → Type 0) (goal : S → X → Type 0) (made : Q) (stage here : S) (end so : X) (g : Geometry) (first now later : View) (piece : M)
    → stage ≡ here → end ≡ so → IsPieceAt stages made stage g first now piece → leaves piece g now end later
    → (stages.known made here g first now → leaves (stages.piece made here) g now so later → goal here so) → goal stage end
by-stage {Q} {S} {M} {X} {O} stages leaves goal made stage here end so g first now later piece at ended known left show =
    let K : S → Type 0 = λ s. stages.known made s g first now in
    let L : M → Type 0 = λ m. leaves m g now end later in
    let N : S → Type 0 = λ s. leaves (stages.piece made s) g now end later in
    let E : X → Type 0 = λ x. leaves (stages.piece made here) g now x later in
    let H : S → Type 0 = λ s. goal s end in
    let shown = show (subst K at known.known) (subst E ended (subst N at (subst L known.is left))) in
    subst H (sym at) (subst (goal here) (sym ended) shown)

-- the piece that a plan gives, which has come to a stage
pub runs-new : {P Q S M X O : Type 0} (made : P → M) (is_new : P → Type 0) (may_begin : M → Geometry → View → Type 0) (shape : M → Geometry → Own → X → Type 0) (stages : Stages Q S M X O) (was : Own → O → Type 0) (given new : Q) (stage now : S) (piece : P) (g : Geometry) (first view : View)
    → new ≡ given → now ≡ stage → made piece ≡ stages.piece given stage → is_new piece
    → RunsAt may_begin shape stages given stage was g first view
    → IsNewRun made is_new may_begin shape (IsPieceAt stages new now) (stages.left new now) was piece g first view
runs-new {P} {Q} {S} {M} {X} {O} made is_new may_begin shape stages was given new stage now piece g first view data-is stage-is piece-is fresh run =
    let D : Q → Type 0 = λ d. IsPieceRun may_begin shape (IsPieceAt stages d stage) (stages.left d stage) was (made piece) g first view in
    let T : S → Type 0 = λ s. IsPieceRun may_begin shape (IsPieceAt stages new s) (stages.left new s) was (made piece) g first view in
    let R : M → Type 0 = λ m. IsPieceRun may_begin shape (IsPieceAt stages given stage) (stages.left given stage) was m g first view in
    record { new = fresh; run = subst T (sym stage-is) (subst D (sym data-is) (subst R (sym piece-is) run)) }
