-- A single action along a pattern.
use Rattle.std.proofs.Common.{◌++◌, ◌∷◌, [], refl}
use Rattle.nm_base.specs.Geometry.{Geometry}
use Rattle.nm_action.specs.declared.action.Action.{Action}
use Rattle.nm_action.specs.declared.action.Reply.{Reply}
use Rattle.nm_action.specs.Own.{Own}
use Rattle.nm_view.specs.Views.{View}
use Rattle.nm_event.specs.Fitting.{Fits}
use Rattle.nm_part.specs.Parts.{IsBegunWith}
use Rattle.nm_part.specs.Patterns.{Follows, IsLeft, CanEnd}
use Rattle.nm_part.proofs.Patterns.{left-after}
use Rattle.nm_compose.specs.Acts.{IsAct}
use Rattle.nm_compose.proofs.Acting.{some-act, reply-kind}

-- after an action and a reply that fits, what comes after them is left
pub left-acts : {O : Type 0} (g : Geometry) (view : View) (whole : Own → O → Type 0) (own : Own) (action : Action) (reply : Reply) (after : Reply → Own → O → Type 0)
    → IsLeft whole own (Follows (IsAct action g) after) → Fits g view action reply → IsLeft whole (own ++ (action, reply) ∷ []) (after reply)
left-acts g view whole own action reply after due fits = left-after whole own ((action, reply) ∷ []) (IsAct action g) after reply due (record { is = refl; kind = reply-kind g view action reply fits.kind })

-- an action that is left begins a finished list, where what comes after it can end
pub begun-acts : {O : Type 0} (g : Geometry) (whole : Own → O → Type 0) (own : Own) (action : Action) (after : Reply → Own → O → Type 0)
    → IsLeft whole own (Follows (IsAct action g) after) → ((reply : Reply) → CanEnd (after reply)) → IsBegunWith whole own action
begun-acts g whole own action after due can =
    let some = some-act action g in
    let rest = can some.outcome in
    record {
      reply = some.outcome;
      begun = record {
        rest = rest.rest;
        outcome = rest.outcome;
        whole = (left-after whole own ((action, some.outcome) ∷ []) (IsAct action g) after some.outcome due (record { is = refl; kind = some.shown.kind })).carry rest.rest rest.outcome rest.shown;
      };
    }
