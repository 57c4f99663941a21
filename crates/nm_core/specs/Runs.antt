-- Runs of the machine, the parts of its actors, and their accesses.
use Rattle.std.specs.Prelude.{◌≡◌, ℕ, List, [], ◌∷◌, Option, Some, None}
use Rattle.std.specs.List.{filter_map}
use Rattle.nm_base.specs.Geometry.{Geometry}
use Rattle.nm_flat.specs.declared.access.Access.{Access}
use Rattle.nm_flat.specs.declared.access.AccessKind.TheVariants as kinds
use Rattle.nm_action.specs.declared.action.Action.{Action}
use Rattle.nm_action.specs.declared.action.Action.TheVariants.{Load, Store, Add}
use Rattle.nm_action.specs.declared.action.Reply.{Reply}
use Rattle.nm_action.specs.declared.action.Reply.TheVariants.{Word}
use Rattle.nm_action.specs.declared.action.Event.{Event}
use Rattle.nm_view.specs.Opening.{IsActor}
use Rattle.nm_permit.specs.Permitted.{Allowed}
use Rattle.nm_core.specs.State.{State, view_of, reply_to, step, start}

-- an event is a step from a state: its actor exists, its action is permitted by the actor's view, and its reply is the
-- step's
pub record IsStep (s : State) (e : Event) : Type 0 where
  pub actor : IsActor s.geometry e.actor
  pub allowed : Allowed s.geometry (view_of s e.actor) e.action
  pub reply : e.reply ≡ reply_to s e.actor e.action

-- the state after an event
abbrev pub after_event : State → Event → State
after_event s e = step s e.actor e.action

-- the state after a list of events that begins in state s
abbrev pub state_from : State → List Event → State
state_from s [] = s
state_from s (e ∷ events) = state_from (after_event s e) events

-- each event of a list is a step from the state after those before it
abbrev pub IsRunFrom : State → List Event → Type 0
IsRunFrom s [] = Unit {0}
IsRunFrom s (e ∷ events) = IsStep s e × IsRunFrom (after_event s e) events

-- the state after a list of events of a machine
abbrev pub state_after : Geometry → List Event → State
state_after g events = state_from (start g) events

-- a run of a machine: each event is a step, from the state in which nothing was done on
abbrev pub IsRun : Geometry → List Event → Type 0
IsRun g events = IsRunFrom (start g) events

-- the access that an action with its reply is, if it is one
abbrev pub access_by : ℕ → Action → Reply → Option Access
access_by cpu (Load v i) (Word x) = Some (record { cpu = cpu; vpage = v; word = i; kind = kinds.Load x })
access_by cpu (Store v i x) (Word _) = Some (record { cpu = cpu; vpage = v; word = i; kind = kinds.Store x })
access_by cpu (Add v i x) (Word gave) = Some (record { cpu = cpu; vpage = v; word = i; kind = kinds.Add gave x })
access_by cpu _ _ = None

abbrev pub access_of : Event → Option Access
access_of e = access_by e.actor e.action e.reply

-- the accesses of a list: its loads, stores and adds, in their order
abbrev pub accesses_of : List Event → List Access
accesses_of events = filter_map access_of events
