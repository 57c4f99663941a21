-- What a part of an actor's work promises of each step.
use Rattle.std.specs.Prelude.{[], ◌∷◌, ◌++◌}
use Rattle.nm_base.specs.Geometry.{Geometry}
use Rattle.nm_action.specs.declared.action.Action.{Action}
use Rattle.nm_action.specs.declared.action.Action.TheVariants.{Load, Store, Add, Walk, Peek, Poll, Ack}
use Rattle.nm_action.specs.declared.action.Reply.{Reply}
use Rattle.nm_action.specs.declared.turn.Step.{Step}
use Rattle.nm_action.specs.declared.turn.Step.TheVariants.{Do, Over}
use Rattle.nm_action.specs.Own.{Own}
use Rattle.nm_view.specs.Views.{View}
use Rattle.nm_permit.specs.Permitted.{Allowed}
use Rattle.nm_event.specs.Fitting.{Fits}
use Rattle.nm_event.specs.After.{view_after}

-- In all of these `view` is the one that the part began in, and `own` its own list since then.

-- there are a geometry and a view with which a part may begin
pub record HasBegin (may : Geometry → View → Type 0) : Type 0 where
  pub geometry : Geometry
  pub view : View
  pub allowed : may geometry view

-- an own list is the beginning of a finished one
pub record IsBegun {O : Type 0} (shape : Own → O → Type 0) (own : Own) : Type 0 where
  pub rest : Own
  pub outcome : O
  pub whole : shape (own ++ rest) outcome

-- an own list with this action and some reply after it is the beginning of a finished one
pub record IsBegunWith {O : Type 0} (shape : Own → O → Type 0) (own : Own) (action : Action) : Type 0 where
  pub reply : Reply
  pub begun : IsBegun shape (own ++ (action, reply) ∷ [])

-- an action is quiet: it is no access, and neither uses nor tells of the actor's translations or its acknowledgement
abbrev pub IsQuiet : Action → Type 0
IsQuiet (Load _ _) = ⊥
IsQuiet (Store _ _ _) = ⊥
IsQuiet (Add _ _ _) = ⊥
IsQuiet (Walk _ _ _) = ⊥
IsQuiet (Peek _) = ⊥
IsQuiet Poll = ⊥
IsQuiet (Ack _) = ⊥
IsQuiet _ = Unit {0}

-- a part gives an action, which is quiet and permitted, and awaits the answer to it
pub record IsAsked {O : Type 0} (awaits : Geometry → View → Own → Action → Type 0) (shape : Geometry → Own → O → Type 0) (g : Geometry) (view : View) (own : Own) (action : Action) : Type 0 where
  pub quiet : IsQuiet action
  pub permitted : Allowed g (view_after g view own) action
  pub awaited : awaits g view own action
  pub begun : IsBegunWith (shape g) own action

-- a part is over: the own list is finished and shows the outcome, the view is one that the part leaves, and the part is in
-- the state in which it ends
pub record IsEnded {O : Type 0} (shape : Geometry → Own → O → Type 0) (leaves : Geometry → View → O → View → Type 0) (ended : Geometry → Own → O → Type 0) (g : Geometry) (view : View) (own : Own) (outcome : O) : Type 0 where
  pub shown : shape g own outcome
  pub left : leaves g view outcome (view_after g view own)
  pub over : ended g own outcome

-- nothing is told of a part that is over, since there is nothing that it can be asked for
abbrev pub NothingTold : {O : Type 0} → Geometry → Own → O → Type 0
NothingTold g own outcome = Unit {0}

-- a part gives a step
abbrev pub IsPartStep : {O : Type 0} → (Geometry → View → Own → Action → Type 0) → (Geometry → Own → O → Type 0) → (Geometry → View → O → View → Type 0) → (Geometry → Own → O → Type 0) → Geometry → View → Own → Step O → Type 0
IsPartStep awaits shape leaves ended g view own (Do action) = IsAsked awaits shape g view own action
IsPartStep awaits shape leaves ended g view own (Over outcome) = IsEnded shape leaves ended g view own outcome

-- a part awaits the answer to an action, and this reply fits
pub record IsHeard (awaits : Geometry → View → Own → Action → Type 0) (reply : Reply) : Type 0 where
  pub geometry : Geometry
  pub view : View
  pub own : Own
  pub action : Action
  pub awaited : awaits geometry view own action
  pub fits : Fits geometry (view_after geometry view own) action reply
