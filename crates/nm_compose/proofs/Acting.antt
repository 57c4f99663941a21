-- A single action as a part.
use Rattle.std.proofs.Common.{[], ◌∷◌, refl}
use Rattle.nm_base.specs.Geometry.{Geometry}
use Rattle.nm_action.specs.declared.action.Action.{Action}
use Rattle.nm_action.specs.declared.action.Action.TheVariants.{Walk, Ack, Lock, Unlock, Map, CopyStore, SetHome, SetShadow, TakeTurn, ReleaseTurn, Mark}
use Rattle.nm_action.specs.declared.action.Reply.{Reply}
use Rattle.nm_action.specs.declared.action.Reply.TheVariants.{Done, Word}
use Rattle.nm_view.specs.Views.{View}
use Rattle.nm_step.specs.Table.{change_of, IsReplyTo}
use Rattle.nm_part.specs.Patterns.{CanEnd}
use Rattle.nm_compose.specs.Acts.{IsAct}

-- a reply of the action's kind
abbrev some_reply : Action → Reply
some_reply (Walk _ _ _) = Done
some_reply (Ack _) = Done
some_reply (Lock _) = Done
some_reply (Unlock _) = Done
some_reply (Map _ _) = Done
some_reply (CopyStore _ _ _ _) = Done
some_reply (SetHome _ _) = Done
some_reply (SetShadow _ _ _) = Done
some_reply (TakeTurn _) = Done
some_reply (ReleaseTurn _) = Done
some_reply (Mark _ _ _) = Done
some_reply _ = Word 0

some-reply : (g : Geometry) (view : View) (action : Action) → IsReplyTo (change_of g view action) (some_reply action)
some-reply g view (Lock _) = tt
some-reply g view _ = tt

-- the kind of an exchange is that of the action, in every view
pub reply-kind : (g : Geometry) (view : View) (action : Action) (reply : Reply) → IsReplyTo (change_of g view action) reply → (v : View) → IsReplyTo (change_of g v action) reply
reply-kind g view (Lock _) reply kind v = kind
reply-kind g view _ reply kind v = kind

-- the pattern of a single action has a list
pub some-act : (action : Action) (g : Geometry) → CanEnd (IsAct action g)
some-act action g = record {
  rest = (action, some_reply action) ∷ [];
  outcome = some_reply action;
  shown = record { is = refl; kind = λ view. some-reply g view action };
}
