-- One turn more of an actor of a machine.
use Rattle.std.proofs.Common.{◌≡◌, ℕ, [], ◌∷◌, ◌++◌, Option, Some, None, sym, ap, subst, ◌∙◌}
use Rattle.nm_base.specs.Geometry.{Geometry}
use Rattle.nm_action.specs.declared.action.Action.{Action}
use Rattle.nm_action.specs.declared.action.Reply.{Reply}
use Rattle.nm_action.specs.declared.turn.Turn.{Turn}
use Rattle.nm_action.specs.declared.turn.Turn.TheVariants.{Do}
use Rattle.nm_action.specs.declared.turn.Heard.TheVariants.{Start, Answer}
use Rattle.nm_action.specs.Own.{Own}
use Rattle.nm_view.specs.Views.{View}
use Rattle.nm_view.specs.Opening.{opening}
use Rattle.nm_permit.specs.Permitted.{Allowed}
use Rattle.nm_event.specs.After.{after_of, view_after}
use Rattle.nm_event.specs.Fitting.{Fits}
use Rattle.nm_part.proofs.OwnLemmas.{view-push}
use Rattle.nm_actor.specs.Turns.{Turns, own_list, turns_view}
use Rattle.nm_actor.specs.Actors.{answered, IsAnswerTo, HasHeard, IsTurn}
use Rattle.nm_actor.proofs.TurnLists.{own-push}
use Rattle.nm_actor_rows.specs.Following.{IsActing, IsMade}

-- the view after an action more
turns-view-push : (g : Geometry) (number : ℕ) (done : Turns) (action : Action) (reply : Reply) → turns_view g number (done ++ (Do action, Answer reply) ∷ []) ≡ after_of g (turns_view g number done) action reply
turns-view-push g number done action reply =
    ap (λ (l : Own). view_after g (opening g number) l) (own-push done (Do action) (Answer reply)) ∙ view-push g (opening g number) (own_list done) action reply

-- it hears Start first
pub start-heard : (agrees : Turns → Option Turn → Type 0) (g : Geometry) (number : ℕ) → agrees [] None → HasHeard g number agrees Start
start-heard agrees g number h = record { turns = []; last = None; agreed = h; answer = tt }

-- its first turn
pub acting-first : (agrees next : Turns → Option Turn → Type 0) (g : Geometry) (number : ℕ) (now : View) (result : Turn)
    → agrees [] None → now ≡ opening g number
    → ((done : Turns) (last : Option Turn) → agrees done last → IsAnswerTo g (turns_view g number done) last Start → IsTurn g number next (answered last Start done) result)
    → IsActing g number next now result
acting-first agrees next g number now result opens is turn = record { done = []; is = is; given = turn [] None opens tt }

-- the action that it has given is permitted
pub acting-allowed : (agrees : Turns → Option Turn → Type 0) (g : Geometry) (number : ℕ) (now : View) (turn : Turn) (action : Action) → IsActing g number agrees now turn → turn ≡ Do action → Allowed g now action
acting-allowed agrees g number now turn action h is =
    let P : View → Type 0 = λ v. Allowed g v action in
    let T : Turn → Type 0 = λ t. IsTurn g number agrees h.done t in
    subst P (sym h.is) (subst T is h.given).permitted

-- it hears a reply that fits
pub acting-heard : (agrees : Turns → Option Turn → Type 0) (g : Geometry) (number : ℕ) (now new : View) (turn : Turn) (action : Action) (reply : Reply) → IsActing g number agrees now turn → turn ≡ Do action → IsMade g now new action reply → HasHeard g number agrees (Answer reply)
acting-heard agrees g number now new turn action reply h is made =
    let P : View → Type 0 = λ v. Fits g v action reply in
    let T : Turn → Type 0 = λ t. IsTurn g number agrees h.done t in
    record { turns = h.done; last = Some (Do action); agreed = (subst T is h.given).agreed; answer = subst P h.is made.fits }

-- the turn after it
pub acting-more : {M : Type 0} (geometry : M → Geometry) (number : M → ℕ) (agrees next : Turns → Option Turn → Type 0) (m made : M) (now new : View) (turn result : Turn) (action : Action) (reply : Reply)
    → m ≡ made → IsActing (geometry made) (number made) agrees now turn → turn ≡ Do action → IsMade (geometry made) now new action reply
    → ((done : Turns) (last : Option Turn) → agrees done last → IsAnswerTo (geometry m) (turns_view (geometry m) (number m) done) last (Answer reply) → IsTurn (geometry m) (number m) next (answered last (Answer reply) done) result)
    → IsActing (geometry made) (number made) next new result
acting-more {M} geometry number agrees next m made now new turn result action reply same h is done after =
    let g = geometry made in
    let n = number made in
    let P : View → Type 0 = λ v. Fits g v action reply in
    let T : Turn → Type 0 = λ t. IsTurn g n agrees h.done t in
    let A : M → Type 0 = λ k. (done : Turns) (last : Option Turn) → agrees done last → IsAnswerTo (geometry k) (turns_view (geometry k) (number k) done) last (Answer reply) → IsTurn (geometry k) (number k) next (answered last (Answer reply) done) result in
    record {
      done = h.done ++ (Do action, Answer reply) ∷ [];
      is = done.view ∙ ap (λ (v : View). after_of g v action reply) h.is ∙ sym (turns-view-push g n h.done action reply);
      given = subst A same after h.done (Some (Do action)) (subst T is h.given).agreed (subst P h.is done.fits);
    }

-- the same turn, while another actor made a step
pub acting-still : (agrees : Turns → Option Turn → Type 0) (g : Geometry) (number : ℕ) (now new : View) (turn : Turn) → new ≡ now → IsActing g number agrees now turn → IsActing g number agrees new turn
acting-still agrees g number now new turn same h = record { done = h.done; is = same ∙ h.is; given = h.given }
