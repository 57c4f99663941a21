-- What a plan promises of each piece that it gives.
use Rattle.std.specs.Prelude.{[]}
use Rattle.nm_base.specs.Geometry.{Geometry}
use Rattle.nm_view.specs.Views.{View}
use Rattle.nm_action.specs.Own.{Own}
use Rattle.nm_part.specs.Patterns.{Follows, CanEnd}
use Rattle.nm_compose.specs.declared.plan.Next.{Next}
use Rattle.nm_compose.specs.declared.plan.Next.TheVariants.{Run, Over}

-- In all of these `first` is the view that the composite began in, and `now` the one in which the piece begins; `was` is
-- the pattern that was left before the piece.

-- a piece of this data runs: it may begin, what is known holds, the composite can be finished after each of its ends, and
-- a list of the piece with what is left after it is a list of what was left before
pub record IsPieceRun {M X O : Type 0} (may_begin : M → Geometry → View → Type 0) (shape : M → Geometry → Own → X → Type 0) (knows : Geometry → View → View → M → Type 0) (left : Geometry → X → Own → O → Type 0) (was : Own → O → Type 0) (piece : M) (g : Geometry) (first now : View) : Type 0 where
  pub begin : may_begin piece g now
  pub known : knows g first now piece
  pub can : (own : Own) (end : X) → shape piece g own end → CanEnd (left g end)
  pub fits : (own : Own) (outcome : O) → Follows (shape piece g) (left g) own outcome → was own outcome

-- a new piece runs
pub record IsNewRun {P M X O : Type 0} (made : P → M) (is_new : P → Type 0) (may_begin : M → Geometry → View → Type 0) (shape : M → Geometry → Own → X → Type 0) (knows : Geometry → View → View → M → Type 0) (left : Geometry → X → Own → O → Type 0) (was : Own → O → Type 0) (piece : P) (g : Geometry) (first now : View) : Type 0 where
  pub new : is_new piece
  pub run : IsPieceRun may_begin shape knows left was (made piece) g first now

-- the composite is over: nothing more was left, the view is as the composite leaves it, and the plan is in the state in
-- which it ends
pub record IsOver {O : Type 0} (was : Own → O → Type 0) (leaves : Geometry → View → O → View → Type 0) (ended : Geometry → O → Type 0) (g : Geometry) (first now : View) (outcome : O) : Type 0 where
  pub shown : was [] outcome
  pub left : leaves g first outcome now
  pub over : ended g outcome

-- what a plan does next
abbrev pub IsNext : {P M X O : Type 0} → (P → M) → (P → Type 0) → (M → Geometry → View → Type 0) → (M → Geometry → Own → X → Type 0) → (Geometry → View → View → M → Type 0) → (Geometry → X → Own → O → Type 0) → (Own → O → Type 0) → (Geometry → View → O → View → Type 0) → (Geometry → O → Type 0) → Geometry → View → View → Next P O → Type 0
IsNext made is_new may_begin shape knows left was leaves ended g first now (Run piece) = IsNewRun made is_new may_begin shape knows left was piece g first now
IsNext made is_new may_begin shape knows left was leaves ended g first now (Over outcome) = IsOver was leaves ended g first now outcome

-- a piece of this data has ended so: in some geometry, begun in the view `now`, left in the view `later`, and in the state
-- in which it ends
pub record HasEnded {M X : Type 0} (shape : M → Geometry → Own → X → Type 0) (leaves : M → Geometry → View → X → View → Type 0) (ended : Geometry → Own → X → Type 0) (knows : Geometry → View → View → M → Type 0) (piece : M) (end : X) : Type 0 where
  pub geometry : Geometry
  pub first : View
  pub now : View
  pub later : View
  pub own : Own
  pub known : knows geometry first now piece
  pub shown : shape piece geometry own end
  pub left : leaves piece geometry now end later
  pub over : ended geometry own end
