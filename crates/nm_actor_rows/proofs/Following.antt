-- One step more of a part that an actor of a machine runs.
use Rattle.std.proofs.Common.{◌≡◌, ◌≢◌, ◌<◌, ℕ, [], ◌∷◌, ◌++◌, length, sym, subst, ap, ◌∙◌}
use Rattle.std.proofs.lemmas.List.{get_or-set_same, get_or-set_other}
use Rattle.nm_base.specs.Geometry.{Geometry}
use Rattle.nm_action.specs.declared.action.Action.{Action}
use Rattle.nm_action.specs.declared.action.Reply.{Reply}
use Rattle.nm_action.specs.declared.turn.Step.{Step}
use Rattle.nm_action.specs.declared.turn.Step.TheVariants.{Do}
use Rattle.nm_action.specs.Own.{Own}
use Rattle.nm_view.specs.Views.{View}
use Rattle.nm_view.specs.Opening.{opening}
use Rattle.nm_permit.specs.Permitted.{Allowed}
use Rattle.nm_event.specs.After.{after_of, view_after}
use Rattle.nm_event.specs.Fitting.{Fits}
use Rattle.nm_part.specs.Parts.{IsAsked, IsPartStep, IsHeard}
use Rattle.nm_part.proofs.OwnLemmas.{view-push}
use Rattle.nm_core.specs.State.{State, view_of, reply_to, step}
use Rattle.nm_actor_rows.specs.Following.{IsFollowing, IsMade}

-- the view of an actor that made a step
pub view-stepped : (s : State) (actor : ℕ) (action : Action) → actor < length s.views → view_of (step s actor action) actor ≡ after_of s.geometry (view_of s actor) action (reply_to s actor action)
view-stepped s actor action lt = get_or-set_same s.views actor (after_of s.geometry (view_of s actor) action (reply_to s actor action)) (opening s.geometry actor) lt

-- the view of an actor while another made a step
pub view-other : (s : State) (actor other : ℕ) (action : Action) → actor ≢ other → view_of (step s other action) actor ≡ view_of s actor
view-other s actor other action n = get_or-set_other s.views other actor (after_of s.geometry (view_of s other) action (reply_to s other action)) (opening s.geometry actor) n

asked : {O : Type 0} (awaits : Geometry → View → Own → Action → Type 0) (shape : Geometry → Own → O → Type 0) (leaves : Geometry → View → O → View → Type 0) (ended : Geometry → Own → O → Type 0) (g : Geometry) (first now : View) (given : Step O) (action : Action)
    → (h : IsFollowing awaits shape leaves ended g first now given) → given ≡ Do action → IsAsked awaits shape g first h.own action
asked awaits shape leaves ended g first now given action h is = rw is at h.given

-- the action that a part has given is permitted
pub following-allowed : {O : Type 0} (awaits : Geometry → View → Own → Action → Type 0) (shape : Geometry → Own → O → Type 0) (leaves : Geometry → View → O → View → Type 0) (ended : Geometry → Own → O → Type 0) (g : Geometry) (first now : View) (given : Step O) (action : Action)
    → IsFollowing awaits shape leaves ended g first now given → given ≡ Do action → Allowed g now action
following-allowed awaits shape leaves ended g first now given action h is = let P : View → Type 0 = λ v. Allowed g v action in subst P (sym h.is) (asked awaits shape leaves ended g first now given action h is).permitted

-- the part hears a reply that fits
pub following-heard : {O : Type 0} (awaits : Geometry → View → Own → Action → Type 0) (shape : Geometry → Own → O → Type 0) (leaves : Geometry → View → O → View → Type 0) (ended : Geometry → Own → O → Type 0) (g : Geometry) (first now new : View) (given : Step O) (action : Action) (reply : Reply)
    → IsFollowing awaits shape leaves ended g first now given → given ≡ Do action → IsMade g now new action reply → IsHeard awaits reply
following-heard awaits shape leaves ended g first now new given action reply h is made =
    let P : View → Type 0 = λ v. Fits g v action reply in
    record { geometry = g; view = first; own = h.own; action = action; awaited = (asked awaits shape leaves ended g first now given action h is).awaited; fits = subst P h.is made.fits }

-- the step after it
pub following-more : {O M : Type 0} (awaits next : Geometry → View → Own → Action → Type 0) (shape : M → Geometry → Own → O → Type 0) (leaves : M → Geometry → View → O → View → Type 0) (ended ended' : Geometry → Own → O → Type 0) (m made : M) (g : Geometry) (first now new : View) (given result : Step O) (action : Action) (reply : Reply)
    → m ≡ made → IsFollowing awaits (shape made) (leaves made) ended g first now given → given ≡ Do action → IsMade g now new action reply
    → ((g : Geometry) (v : View) (own : Own) (a : Action) → awaits g v own a → Fits g (view_after g v own) a reply → IsPartStep next (shape m) (leaves m) ended' g v (own ++ (a, reply) ∷ []) result)
    → IsFollowing next (shape made) (leaves made) ended' g first new result
following-more {O} {M} awaits next shape leaves ended ended' m made g first now new given result action reply same h is done after =
    let P : View → Type 0 = λ v. Fits g v action reply in
    let R : M → Type 0 = λ k. IsPartStep next (shape k) (leaves k) ended' g first (h.own ++ (action, reply) ∷ []) result in
    record {
      own = h.own ++ (action, reply) ∷ [];
      is = done.view ∙ ap (λ (v : View). after_of g v action reply) h.is ∙ sym (view-push g first h.own action reply);
      given = subst R same (after g first h.own action (asked awaits (shape made) (leaves made) ended g first now given action h is).awaited (subst P h.is done.fits));
    }

-- the same part, while another actor made a step
pub following-still : {O : Type 0} (awaits : Geometry → View → Own → Action → Type 0) (shape : Geometry → Own → O → Type 0) (leaves : Geometry → View → O → View → Type 0) (ended : Geometry → Own → O → Type 0) (g : Geometry) (first now new : View) (given : Step O)
    → new ≡ now → IsFollowing awaits shape leaves ended g first now given → IsFollowing awaits shape leaves ended g first new given
following-still awaits shape leaves ended g first now new given same h = record { own = h.own; is = same ∙ h.is; given = h.given }
