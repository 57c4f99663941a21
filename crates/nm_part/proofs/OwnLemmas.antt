-- Views along own lists, and lists that can be carried on.
use Rattle.std.proofs.Common.{◌≡◌, [], ◌∷◌, ◌++◌, refl, append_assoc, subst}
use Rattle.nm_base.specs.Geometry.{Geometry}
use Rattle.nm_action.specs.declared.action.Action.{Action}
use Rattle.nm_action.specs.declared.action.Reply.{Reply}
use Rattle.nm_view.specs.Views.{View}
use Rattle.nm_event.specs.After.{after_of, view_after}
use Rattle.nm_action.specs.Own.{Own}
use Rattle.nm_part.specs.Parts.{IsBegun, IsBegunWith}

-- the view after two lists
pub view-append : (g : Geometry) (v : View) (a b : Own) → view_after g v (a ++ b) ≡ view_after g (view_after g v a) b
view-append g v [] b = refl
view-append g v (p ∷ ps) b = view-append g (after_of g v p.0 p.1) ps b

-- the view after one action more
pub view-push : (g : Geometry) (v : View) (own : Own) (action : Action) (reply : Reply) → view_after g v (own ++ (action, reply) ∷ []) ≡ after_of g (view_after g v own) action reply
view-push g v own action reply = view-append g v own ((action, reply) ∷ [])

-- the front of a list that can be carried on can be carried on
pub begun-front : {O : Type 0} (shape : Own → O → Type 0) (own more : Own) → IsBegun shape (own ++ more) → IsBegun shape own
begun-front shape own more h = record {
  rest = more ++ h.rest;
  outcome = h.outcome;
  whole = let P : Own → Type 0 = λ l. shape l h.outcome in subst P (append_assoc own more h.rest) h.whole;
}

-- so can a list that can be carried on with an action more
pub begun-with : {O : Type 0} (shape : Own → O → Type 0) (own : Own) (action : Action) → IsBegunWith shape own action → IsBegun shape own
begun-with shape own action h = begun-front shape own ((action, h.reply) ∷ []) h.begun
