-- That the view of an actor after a run follows from its own list.
use Rattle.std.proofs.Common.{◌≡◌, ◌≢◌, ℕ, ◌<◌, ◌==◌, if◌then◌else◌, Bool, true, false, List, [], ◌∷◌, length, refl, sym, ap, ◌∙◌, arith}
use Rattle.std.proofs.lemmas.Bool.{eqb-true, eqb-false}
use Rattle.std.proofs.lemmas.List.{length-set, get_or-set_same, get_or-set_other}
use Rattle.std.proofs.lemmas.List.FromFn.{length-map-range_with_len}
use Rattle.nm_base.specs.Geometry.{Geometry}
use Rattle.nm_action.specs.Own.{Own, own_of}
use Rattle.nm_action.specs.declared.action.Event.{Event}
use Rattle.nm_view.specs.Views.{View}
use Rattle.nm_view.specs.Opening.{opening, IsActor}
use Rattle.nm_event.specs.After.{after_of, view_after}
use Rattle.nm_core.specs.State.{State, view_of, reply_to, start, actor_count}
use Rattle.nm_core.specs.Runs.{IsStep, IsRun, IsRunFrom, after_event, state_from, state_after}
use Rattle.nm_core.proofs.Starts.{view_of-start}

-- the view of the actor of an event changes by its action and reply
own_step : (s : State) (e : Event) (actor : ℕ) → e.actor ≡ actor → length s.views ≡ actor_count s.geometry → IsStep s e → view_of (after_event s e) actor ≡ after_of s.geometry (view_of s actor) e.action e.reply
own_step s e actor same size made =
    let new : View = after_of s.geometry (view_of s e.actor) e.action (reply_to s e.actor e.action) in
    let there : e.actor < length s.views = omega (arith, made.actor, size) in
    ap (view_of (after_event s e)) (sym same) ∙ get_or-set_same s.views e.actor new (opening s.geometry e.actor) there ∙ ap (λ r. after_of s.geometry (view_of s e.actor) e.action r) (sym made.reply) ∙ ap (λ n. after_of s.geometry (view_of s n) e.action e.reply) same

-- that of another actor stays
other_step : (s : State) (e : Event) (actor : ℕ) → actor ≢ e.actor → view_of (after_event s e) actor ≡ view_of s actor
other_step s e actor away =
    get_or-set_other s.views e.actor actor (after_of s.geometry (view_of s e.actor) e.action (reply_to s e.actor e.action)) (opening s.geometry actor) away

own_go : (s : State) (e : Event) (rest : Own) (last : View) (actor : ℕ) (b : Bool) → (e.actor == actor) ≡ b → length s.views ≡ actor_count s.geometry → IsStep s e → last ≡ view_after s.geometry (view_of (after_event s e) actor) rest → last ≡ view_after s.geometry (view_of s actor) (if b then (e.action, e.reply) ∷ rest else rest)
own_go s e rest last actor true is size made h =
    h ∙ ap (λ v. view_after s.geometry v rest) (own_step s e actor (eqb-true e.actor actor is) size made)
own_go s e rest last actor false is size made h =
    h ∙ ap (λ v. view_after s.geometry v rest) (other_step s e actor (λ same. eqb-false e.actor actor is (sym same)))

-- from any state on
pub view_after-from : (s : State) (events : List Event) (actor : ℕ) → length s.views ≡ actor_count s.geometry → IsRunFrom s events → view_of (state_from s events) actor ≡ view_after s.geometry (view_of s actor) (own_of actor events)
view_after-from s [] actor size run = refl
view_after-from s (e ∷ events) actor size run =
    let more : length (after_event s e).views ≡ actor_count s.geometry = length-set s.views e.actor (after_of s.geometry (view_of s e.actor) e.action (reply_to s e.actor e.action)) ∙ size in
    own_go s e (own_of actor events) (view_of (state_from s (e ∷ events)) actor) actor (e.actor == actor) refl size run.0 (view_after-from (after_event s e) events actor more run.1)

-- after a run, the view of an actor is that of its own list
pub view_after-run : (g : Geometry) (events : List Event) (actor : ℕ) → IsActor g actor → IsRun g events → view_of (state_after g events) actor ≡ view_after g (opening g actor) (own_of actor events)
view_after-run g events actor there run =
    view_after-from (start g) events actor (length-map-range_with_len (opening g) 0 (actor_count g)) run ∙ ap (λ v. view_after g v (own_of actor events)) (view_of-start g actor there)
