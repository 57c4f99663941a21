-- A piece of work that tells at its end what the actor has drawn: all else that is said of it is said by the piece.
use Rattle.std.specs.Prelude.{◌≡◌, ◌+◌, ◌<◌, ◌^◌, [], ◌∷◌}
use Rattle.nm_base.specs.Geometry.{Geometry}
use Rattle.nm_action.specs.declared.action.Action.{Action}
use Rattle.nm_action.specs.declared.action.Action.TheVariants.{Bump, Raise}
use Rattle.nm_action.specs.declared.spent.Spent.{Spent}
use Rattle.nm_action.specs.Own.{Own}
use Rattle.nm_action.specs.Spent.{counted}
use Rattle.nm_view.specs.Views.{View}
use Rattle.nm_permit.specs.Permitted.{Allowed}
use Rattle.nm_event.specs.After.{view_after}
use Rattle.nm_worker.specs.Routines.{IsDrawn}
use Rattle.nm_drawing.specs.declared.drawing.Drawn.{Drawn}

-- what is drawn after an own list
abbrev pub drawn_over : Spent → Own → Spent
drawn_over spent [] = spent
drawn_over spent (e ∷ own) = drawn_over (counted e.0 spent) own

-- a count that rises with an action is not the greatest
abbrev pub MayCount : Action → Spent → Type 0
MayCount Bump spent = spent.bumps + 1 < 2 ^ 64
MayCount (Raise vpage) spent = spent.raises + 1 < 2 ^ 64
MayCount action spent = Unit {0}

-- it has given no action yet
pub record IsNewDrawing (new : Type 0) (begun spent : Spent) : Type 0 where
  pub piece : new
  pub same : spent ≡ begun

-- it may begin where its piece may, and so much is drawn there
pub record MayDraw (may : Type 0) (spent : Spent) (view : View) : Type 0 where
  pub piece : may
  pub drawn : IsDrawn spent view

-- a finished list is one of the piece, and what is drawn at its end is what was drawn before and what the list draws
pub record IsDrawingList {X : Type 0} (finished : X → Type 0) (spent : Spent) (own : Own) (told : Drawn X) : Type 0 where
  pub shown : finished told.end
  pub drawn : told.spent ≡ drawn_over spent own

-- it leaves what its piece leaves, and so much is drawn there
pub record IsDrawnLeft {X : Type 0} (leaves : X → Type 0) (later : View) (told : Drawn X) : Type 0 where
  pub left : leaves told.end
  pub drawn : IsDrawn told.spent later

-- it awaits what its piece awaits; the action that it keeps is that one, and so much is drawn so far
pub record AwaitsDrawing (piece : Type 0) (kept : Action) (begun spent : Spent) (g : Geometry) (view : View) (own : Own) (action : Action) : Type 0 where
  pub awaited : piece
  pub same : kept ≡ action
  pub permitted : Allowed g (view_after g view own) action
  pub so_far : spent ≡ drawn_over begun own
  pub drawn : IsDrawn spent (view_after g view own)
