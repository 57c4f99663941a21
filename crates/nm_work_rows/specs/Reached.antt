-- States that runs reach, and what an actor does there.
use Rattle.std.specs.Prelude.{◌≡◌, ◌≢◌, ℕ, List, [], ◌∷◌, All, None}
use Rattle.nm_base.specs.Geometry.{Geometry, IsGeometry}
use Rattle.nm_base.specs.Ranges.{IsPage}
use Rattle.nm_action.specs.declared.action.Action.{Action}
use Rattle.nm_action.specs.declared.action.Reply.{Reply}
use Rattle.nm_action.specs.declared.action.Event.{Event}
use Rattle.nm_action.specs.Own.{Own}
use Rattle.nm_view.specs.Opening.{IsActor}
use Rattle.nm_view.specs.Lists.{Once}
use Rattle.nm_view.specs.Views.{View}
use Rattle.nm_core.specs.State.{State, view_of}
use Rattle.nm_core.specs.Runs.{IsRun, state_after}
use Rattle.nm_shadow_fault.specs.Granting.{MayFault}
use Rattle.nm_fault.specs.Tasks.{fault_at}
use Rattle.nm_batch.specs.Leaving.{asked_page}
use Rattle.nm_actor_rows.specs.Following.{IsMade}

-- some run of a machine leads to this state
pub record IsReached (g : Geometry) (s : State) : Type 0 where
  pub limits : IsGeometry g
  pub same : s.geometry ≡ g
  pub events : List Event
  pub run : IsRun g events
  pub is : s ≡ state_after g events

-- an actor made a step, which was answered so; the views of the others stayed
pub record HasActed (g : Geometry) (old new : State) (actor : ℕ) (action : Action) (reply : Reply) : Type 0 where
  pub reached : IsReached g new
  pub made : IsMade g (view_of old actor) (view_of new actor) action reply
  pub others : (other : ℕ) → actor ≢ other → view_of new other ≡ view_of old other

-- the actor exists, and its view has no operation and holds no turn
pub record IsFreeActor (g : Geometry) (actor : ℕ) (view : View) : Type 0 where
  pub exists : IsActor g actor
  pub none : view.ops ≡ []
  pub turn : view.turn ≡ None

-- a fault on this virtual page may begin: it is mapped to a page
pub record MayBeginFault (g : Geometry) (actor vpage : ℕ) (view : View) : Type 0 where
  pub free : IsFreeActor g actor view
  pub may : MayFault (record { 0 = g; 1 = fault_at g vpage }) g view

-- three pages, each with the virtual page of its number
abbrev pub pieces_of : ℕ → ℕ → ℕ → List (ℕ × ℕ)
pieces_of a b c = (a, a) ∷ (b, b) ∷ (c, c) ∷ []

-- a batch of these pieces may begin: their pages are there, and none stands twice
pub record ArePieces (g : Geometry) (actor : ℕ) (pieces : List (ℕ × ℕ)) (view : View) : Type 0 where
  pub free : IsFreeActor g actor view
  pub pages : All (λ p. IsPage g (asked_page p)) pieces
  pub once : Once asked_page pieces

-- a part is over with this outcome, and in the state in which it ends
pub record IsOverSo {O : Type 0} (ended : Own → O → Type 0) (outcome : O) : Type 0 where
  pub own : Own
  pub over : ended own outcome
