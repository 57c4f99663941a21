-- A step of a seat: when it may be made, and what it tells.
use Rattle.std.specs.Prelude.{◌≡◌, ◌↔◌, ℕ, List, [], ◌∷◌, ◌++◌, Some}
use mathlib.Core.List.{IsPrefix}
use Rattle.atomic_table.specs.Table.{Me}
use Rattle.nm_base.specs.Geometry.{Geometry}
use Rattle.nm_action.specs.Own.{own_of}
use Rattle.nm_action.specs.declared.action.Action.{Action}
use Rattle.nm_action.specs.declared.action.Event.{Event}
use Rattle.nm_action.specs.declared.action.Reply.{Reply}
use Rattle.nm_action.specs.declared.action.Reply.TheVariants.{Busy, Lost}
use Rattle.nm_permit.specs.Permitted.{Allowed}
use Rattle.nm_words.specs.declared.exchanges.Change.{Change}
use Rattle.nm_words.specs.declared.exchanges.Change.TheVariants.{Put}
use Rattle.nm_words.specs.Flat.{at}
use Rattle.nm_step.specs.Table.{where_of, change_of, reply_of}
use Rattle.nm_event.specs.Fitting.{Fits}
use Rattle.nm_core.specs.State.{view_of}
use Rattle.nm_core.specs.Causes.{IsBusyWith, IsLostTo, Refuses}
use Rattle.nm_core.specs.Runs.{IsRun, IsStep, state_after}
use Rattle.nm_rule.specs.declared.known.Progress.{Progress}
use Rattle.nm_rule.specs.declared.known.Knowledge.{Knowledge}
use Rattle.nm_rule.specs.Knows.{event_made, advanced}

-- an actor that has come so far makes an action at a moment of the run, when `front` has been made: its event is the step of
-- the state then. All that was seen before belongs to `front`, and all of it with the event is seen after
pub record IsMoveMade (g : Geometry) (p : Progress) (a : Action) (r : Reply) (before after : List Event) : Type 0 where
  pub front : List Event
  pub run : IsRun g front
  pub own : own_of p.view.number front ≡ p.own
  pub view : view_of (state_after g front) p.view.number ≡ p.view
  pub since : IsPrefix before front
  pub step : IsStep (state_after g front) (event_made p.view.number a r)
  pub seen : after ≡ front ++ event_made p.view.number a r ∷ []
  pub whole : IsRun g after
  pub part : own_of p.view.number after ≡ p.own ++ (a, r) ∷ []
  pub busy : (w : ℕ) → (r ≡ Busy w) ↔ IsBusyWith (state_after g front) p.view.number a w
  pub lost : (w : ℕ) → (r ≡ Lost w) ↔ IsLostTo (state_after g front) p.view.number a w
  pub refused : Refuses r → state_after g after ≡ state_after g front

-- what a seat knows after a step of its actor, of what it knew before
pub record Grows (g : Geometry) (a : Action) (r : Reply) (p : Progress) (k after : Knowledge) : Type 0 where
  pub mine : after.mine ≡ Some (advanced g a r p)
  pub seats : after.seats ≡ k.seats
  pub made : IsMoveMade g p a r k.seen after.seen
  pub fits : Fits g p.view a r

-- what the table tells of the word that an exchange found: a put tells the word that was put
abbrev pub told_of : Change → ℕ → ℕ
told_of (Put x) n = x
told_of _ n = n

-- a step by this action, told_of of this word, leaves the seat so
pub record Tells (g : Geometry) (a : Action) (word : ℕ) (before after : Me (Unit {0}) Knowledge) : Type 0 where
  pub actor : Progress
  pub mine : before.0.mine ≡ Some actor
  pub slots : after.1 ≡ before.1
  pub grows : Grows g a (reply_of (change_of g actor.view a) word) actor before.0 after.0

-- an exchange on the word at a place is the action of the seat's actor, which its view permits
pub record IsExchange (g : Geometry) (a : Action) (k : Knowledge) (i : ℕ) (c : Change) : Type 0 where
  pub actor : Progress
  pub mine : k.mine ≡ Some actor
  pub seats : k.seats ≡ []
  pub allowed : Allowed g actor.view a
  pub place : i ≡ at g (where_of g actor.view a)
  pub change : c ≡ change_of g actor.view a
