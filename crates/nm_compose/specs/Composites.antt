-- A composite: the list that it made before the piece that runs, that piece's own list, and what is left after it.
use Rattle.std.specs.Prelude.{◌≡◌, ◌++◌}
use Rattle.nm_base.specs.Geometry.{Geometry}
use Rattle.nm_action.specs.declared.action.Action.{Action}
use Rattle.nm_view.specs.Views.{View}
use Rattle.nm_action.specs.Own.{Own}
use Rattle.nm_event.specs.After.{view_after}
use Rattle.nm_part.specs.Patterns.{Follows, IsLeft, CanEnd}
use Rattle.nm_compose.specs.Plans.{IsPieceRun}

-- In all of these `view` is the one that the composite began in.

-- a composite is new: its piece is the first, and has given no action
pub record HasFirst {P M X Q O : Type 0} (made : P → M) (is_new : P → Type 0) (may_begin : M → Geometry → View → Type 0) (shape : M → Geometry → Own → X → Type 0) (knows : Geometry → View → View → M → Type 0) (left : Geometry → X → Own → O → Type 0) (may : Q → Geometry → View → Type 0) (whole : Q → Geometry → Own → O → Type 0) (given : Q) (piece : P) : Type 0 where
  pub new : is_new piece
  pub run : (g : Geometry) (view : View) → may given g view → IsPieceRun may_begin shape knows left (whole given g) (made piece) g view view

-- the piece that runs awaits the answer to this action, and what is left of the composite is a list of that piece and what
-- comes after it
pub record IsRunning {M X O : Type 0} (shape : M → Geometry → Own → X → Type 0) (awaits : Geometry → View → Own → Action → Type 0) (knows : Geometry → View → View → M → Type 0) (left : Geometry → X → Own → O → Type 0) (whole : Geometry → Own → O → Type 0) (piece : M) (g : Geometry) (view : View) (own : Own) (action : Action) : Type 0 where
  pub front : Own
  pub inner : Own
  pub is : own ≡ front ++ inner
  pub known : knows g view (view_after g view front) piece
  pub can : (done : Own) (end : X) → shape piece g done end → CanEnd (left g end)
  pub due : IsLeft (whole g) front (Follows (shape piece g) (left g))
  pub awaited : awaits g (view_after g view front) inner action
