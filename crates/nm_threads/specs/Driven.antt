-- Turns that an actor makes at a chair, until it has ended.
use Rattle.std.specs.Prelude.{◌≡◌, ℕ, Bool, true, false, [], ◌∷◌, ◌++◌, Option, None}
use Rattle.nm_base.specs.Geometry.{Geometry}
use Rattle.nm_action.specs.declared.action.Action.{Action}
use Rattle.nm_action.specs.declared.action.Reply.{Reply}
use Rattle.nm_action.specs.declared.turn.Lane.{Lane}
use Rattle.nm_action.specs.declared.turn.Turn.{Turn}
use Rattle.nm_action.specs.declared.turn.Turn.TheVariants.{Do, Put, Take, End}
use Rattle.nm_action.specs.declared.turn.Heard.{Heard}
use Rattle.nm_action.specs.declared.turn.Heard.TheVariants.{Answer, PutDone, PutFull, Took, TookNone}
use Rattle.nm_permit.specs.Permitted.{Allowed}
use Rattle.nm_event.specs.Fitting.{Fits}
use Rattle.nm_actor.specs.Turns.{Turns, turns_view}
use Rattle.nm_actor.specs.Actors.{IsTurn}
use Rattle.nm_actor.specs.Lanes.{LaneState, IsPagePut, IsFull, IsPageTaken, IsEmpty}
use Rattle.nm_actor.specs.Chairs.{ChairState, lane_of, with_lane, stepped}

abbrev pub is_end : Turn → Bool
is_end (Do _) = false
is_end (Put _ _) = false
is_end (Take _) = false
is_end End = true

-- an action was made on a chair, which permitted it, and the reply fits
pub record IsActionMade {N : Type 0} (action : Action) (reply : Reply) (old new : ChairState N) : Type 0 where
  pub permitted : Allowed old.geometry old.view action
  pub fits : Fits old.geometry old.view action reply
  pub is : new ≡ stepped action reply old

-- a page was put into a lane of a chair, or taken from it, or that was refused; nothing else of the chair changes
pub record IsLaneTurn {N : Type 0} (lane : Lane) (said : LaneState → LaneState → Type 0) (old new : ChairState N) : Type 0 where
  pub rest : new ≡ with_lane lane (lane_of lane new) old
  pub lane_is : said (lane_of lane old) (lane_of lane new)

-- a turn was made on a chair, and answered so
abbrev pub IsTurnMade : {N : Type 0} → ChairState N → Turn → Heard → ChairState N → Type 0
IsTurnMade old (Do action) (Answer reply) new = IsActionMade action reply old new
IsTurnMade old (Put lane page) PutDone new = IsLaneTurn lane (IsPagePut page) old new
IsTurnMade old (Put lane page) PutFull new = IsLaneTurn lane IsFull old new
IsTurnMade old (Take lane) (Took page) new = IsLaneTurn lane (IsPageTaken page) old new
IsTurnMade old (Take lane) TookNone new = IsLaneTurn lane IsEmpty old new
IsTurnMade old _ _ new = ⊥

-- turns were made on a chair, one after the other
abbrev pub AreMade : {N : Type 0} → ChairState N → Turns → ChairState N → Type 0
AreMade old [] new = new ≡ old
AreMade {N} old (t ∷ turns) new = (mid : ChairState N) × IsTurnMade old t.0 t.1 mid × AreMade mid turns new

-- an actor is to hear Start, and the turns with which it agrees led to the chair's view
pub record IsReady {N : Type 0} (g : Geometry) (number : ℕ) (agrees : Turns → Option Turn → Type 0) (chair : ChairState N) : Type 0 where
  pub machine : chair.geometry ≡ g
  pub before : Turns
  pub agreed : agrees before None
  pub view : chair.view ≡ turns_view g number before

-- turns were made on a chair, with which an actor agrees behind those with which it agreed before, and then it gave this turn
pub record IsDriving {N : Type 0} (g : Geometry) (number : ℕ) (agrees agrees' : Turns → Option Turn → Type 0) (old new : ChairState N) (turn : Turn) : Type 0 where
  pub turns : Turns
  pub made : AreMade old turns new
  pub agreed : (before : Turns) → agrees before None → old.view ≡ turns_view g number before → IsTurn g number agrees' (before ++ turns) turn

-- the actor has ended
abbrev pub IsDriven : {N : Type 0} → Geometry → ℕ → (Turns → Option Turn → Type 0) → (Turns → Option Turn → Type 0) → ChairState N → ChairState N → Type 0
IsDriven g number agrees agrees' old new = IsDriving g number agrees agrees' old new End
