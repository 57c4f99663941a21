-- A single action as a part.
use Rattle.std.specs.Prelude.{◌≡◌, [], ◌∷◌}
use Rattle.nm_base.specs.Geometry.{Geometry}
use Rattle.nm_action.specs.declared.action.Action.{Action}
use Rattle.nm_action.specs.declared.action.Reply.{Reply}
use Rattle.nm_view.specs.Views.{View}
use Rattle.nm_permit.specs.Permitted.{Allowed}
use Rattle.nm_event.specs.After.{after_of}
use Rattle.nm_step.specs.Table.{change_of, IsReplyTo}
use Rattle.nm_event.specs.Fitting.{Fits}
use Rattle.nm_action.specs.Own.{Own}
use Rattle.nm_part.specs.Parts.{IsQuiet}
use Rattle.nm_compose.specs.declared.act.Act.{Act}

-- the action is quiet, and the view permits it
pub record MayAct (g : Geometry) (view : View) (action : Action) : Type 0 where
  pub quiet : IsQuiet action
  pub allowed : Allowed g view action

-- the list is this one action, with a reply of its kind, which no view decides
pub record IsAct (action : Action) (g : Geometry) (own : Own) (reply : Reply) : Type 0 where
  pub is : own ≡ (action, reply) ∷ []
  pub kind : (view : View) → IsReplyTo (change_of g view action) reply

-- the reply fits the view, and the action with this reply leaves that one
pub record IsActed (g : Geometry) (view : View) (action : Action) (reply : Reply) (left : View) : Type 0 where
  pub fits : Fits g view action reply
  pub is : left ≡ after_of g view action reply

-- it awaits the answer to its action, the first of its list
abbrev pub AwaitsAct : Act → Geometry → View → Own → Action → Type 0
AwaitsAct p g view own action = (own ≡ []) × (action ≡ p.action)
