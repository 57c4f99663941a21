-- A part that runs another part inside its own, after a front of its own list.
use Rattle.std.proofs.Common.{◌≡◌, [], ◌∷◌, ◌++◌, sym, subst, append_assoc}
use Rattle.nm_base.specs.Geometry.{Geometry}
use Rattle.nm_action.specs.declared.action.Action.{Action}
use Rattle.nm_action.specs.declared.action.Reply.{Reply}
use Rattle.nm_view.specs.Views.{View}
use Rattle.nm_permit.specs.Permitted.{Allowed}
use Rattle.nm_event.specs.Fitting.{Fits}
use Rattle.nm_action.specs.Own.{Own}
use Rattle.nm_event.specs.After.{view_after}
use Rattle.nm_part.specs.Parts.{IsBegun, IsAsked}
use Rattle.nm_part.proofs.OwnLemmas.{view-append, begun-front}

regroup : (front inner one rest : Own) → front ++ ((inner ++ one) ++ rest) ≡ ((front ++ inner) ++ one) ++ rest
regroup front inner one rest = simp append_assoc

-- an action that the inner part gives is an action of the whole, where the whole then awaits it, and where each finished
-- list of the inner part can be carried on to one of the whole
pub asked-inside : {O Q : Type 0} (awaits outer : Geometry → View → Own → Action → Type 0) (shape : Geometry → Own → O → Type 0) (whole : Geometry → Own → Q → Type 0) (g : Geometry) (v : View) (front inner : Own) (action : Action)
    → (awaits g (view_after g v front) inner action → outer g v (front ++ inner) action)
    → ((done : Own) (o : O) → shape g done o → IsBegun (whole g) (front ++ done))
    → IsAsked awaits shape g (view_after g v front) inner action → IsAsked outer whole g v (front ++ inner) action
asked-inside awaits outer shape whole g v front inner action up carry h =
    let one : Own = (action, h.begun.reply) ∷ [] in
    let rest : Own = h.begun.begun.rest in
    let done = carry ((inner ++ one) ++ rest) h.begun.begun.outcome h.begun.begun.whole in
    let B : Own → Type 0 = λ own. IsBegun (whole g) own in
    record {
      quiet = h.quiet;
      permitted = let P : View → Type 0 = λ view. Allowed g view action in subst P (sym (view-append g v front inner)) h.permitted;
      awaited = up h.awaited;
      begun = record { reply = h.begun.reply; begun = begun-front (whole g) ((front ++ inner) ++ one) rest (subst B (regroup front inner one rest) done) };
    }

-- a reply that fits the whole fits the inner part
pub fits-inside : (g : Geometry) (v : View) (front inner : Own) (action : Action) (reply : Reply) → Fits g (view_after g v (front ++ inner)) action reply → Fits g (view_after g (view_after g v front) inner) action reply
fits-inside g v front inner action reply f = let P : View → Type 0 = λ view. Fits g view action reply in subst P (view-append g v front inner) f
