-- What a machine and its lanes answer to a turn.
use Rattle.std.specs.Prelude.{◌≡◌, ℕ, ◌<◌, length, []}
use Rattle.nm_action.specs.declared.turn.Turn.{Turn}
use Rattle.nm_action.specs.declared.turn.Turn.TheVariants.{Do, Put, Take}
use Rattle.nm_action.specs.declared.turn.Heard.{Heard}
use Rattle.nm_action.specs.declared.turn.Heard.TheVariants.{Answer, PutDone, PutFull, Took, TookNone}
use Rattle.nm_action.specs.declared.turn.Lane.{Lane}
use Rattle.nm_action.specs.declared.action.Action.{Action}
use Rattle.nm_action.specs.declared.action.Reply.{Reply}
use Rattle.nm_core.specs.State.{State, reply_to, step}
use Rattle.nm_actor.specs.Lanes.{held_with}
use Rattle.nm_queue.specs.Ports.{PortLanes, held_in, with_held, without_first}
use Rattle.nm_schedule.specs.Lanes.{IsFirst}

-- an action is one step of the machine, and the lanes stay
pub record IsStepMade (old new : State) (lanes after : PortLanes) (actor : ℕ) (action : Action) (reply : Reply) : Type 0 where
  pub step : new ≡ step old actor action
  pub told : reply ≡ reply_to old actor action
  pub kept : after ≡ lanes

-- a page was put into a lane that had room, and the machine stays
pub record IsPutMade (old new : State) (lanes after : PortLanes) (lane : Lane) (page : ℕ) : Type 0 where
  pub state : new ≡ old
  pub room : length (held_in lane lanes).pages < (held_in lane lanes).capacity
  pub changed : after ≡ with_held lane (held_with page (held_in lane lanes)) lanes

-- a lane was full, and nothing changed
pub record IsPutRefused (old new : State) (lanes after : PortLanes) (lane : Lane) : Type 0 where
  pub state : new ≡ old
  pub full : length (held_in lane lanes).pages ≡ (held_in lane lanes).capacity
  pub kept : after ≡ lanes

-- the first page of a lane was taken, and the machine stays
pub record IsTakeMade (old new : State) (lanes after : PortLanes) (lane : Lane) (page : ℕ) : Type 0 where
  pub state : new ≡ old
  pub first : IsFirst page (held_in lane lanes).pages
  pub changed : after ≡ with_held lane (without_first (held_in lane lanes)) lanes

-- a lane was empty, and nothing changed
pub record IsTakeEmpty (old new : State) (lanes after : PortLanes) (lane : Lane) : Type 0 where
  pub state : new ≡ old
  pub empty : (held_in lane lanes).pages ≡ []
  pub kept : after ≡ lanes

-- a turn of an actor was made and answered so
abbrev pub IsTurnAnswered : State → State → PortLanes → PortLanes → ℕ → Turn → Heard → Type 0
IsTurnAnswered old new lanes after actor (Do action) (Answer reply) = IsStepMade old new lanes after actor action reply
IsTurnAnswered old new lanes after actor (Put lane page) PutDone = IsPutMade old new lanes after lane page
IsTurnAnswered old new lanes after actor (Put lane page) PutFull = IsPutRefused old new lanes after lane
IsTurnAnswered old new lanes after actor (Take lane) (Took page) = IsTakeMade old new lanes after lane page
IsTurnAnswered old new lanes after actor (Take lane) TookNone = IsTakeEmpty old new lanes after lane
IsTurnAnswered old new lanes after actor _ _ = ⊥
