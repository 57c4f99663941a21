-- The machine, turn by turn.
use Rattle.std.proofs.Common.{◌≡◌, ℕ, Bool, List, [], ◌∷◌, ◌++◌, refl, sym, ap, subst, ◌∙◌}
use Rattle.std.proofs.lemmas.List.{append-nil}
use Rattle.std.proofs.lemmas.List.Elements.{filter_map-append}
use Rattle.nm_base.specs.Geometry.{Geometry, IsGeometry}
use Rattle.nm_action.specs.declared.action.Action.{Action}
use Rattle.nm_action.specs.declared.action.Reply.{Reply}
use Rattle.nm_action.specs.declared.action.Event.{Event}
use Rattle.nm_action.specs.declared.turn.Turn.{Turn}
use Rattle.nm_action.specs.declared.turn.Turn.TheVariants.{Do, Put, Take}
use Rattle.nm_action.specs.declared.turn.Heard.{Heard}
use Rattle.nm_action.specs.declared.turn.Heard.TheVariants.{Answer, PutDone, PutFull, Took, TookNone}
use Rattle.nm_view.specs.Views.{View}
use Rattle.nm_view.specs.Opening.{IsActor}
use Rattle.nm_permit.specs.Permitted.{Allowed}
use Rattle.nm_event.specs.Fitting.{Fits}
use Rattle.nm_core.specs.State.{State, start, view_of, reply_to, step}
use Rattle.nm_core.specs.Runs.{IsStep, IsRun, IsRunFrom, after_event, state_from, state_after}
use Rattle.nm_actor.specs.Actors.{IsAnswer, IsPermittedTurn}
use Rattle.nm_queue.specs.Ports.{PortLanes}
use Rattle.nm_schedule.specs.declared.turn.Played.{Played}
use Rattle.nm_schedule.specs.Played.{event_of, events_of}
use Rattle.nm_play.specs.Answered.{IsTurnAnswered}
use Rattle.nm_play.specs.Played.{RepliesFit}

-- ---- runs

pub geometry-from : (s : State) (events : List Event) → (state_from s events).geometry ≡ s.geometry
geometry-from s [] = refl
geometry-from s (e ∷ events) = geometry-from (after_event s e) events

state-more : (s : State) (events : List Event) (e : Event) → state_from s (events ++ e ∷ []) ≡ after_event (state_from s events) e
state-more s [] e = refl
state-more s (x ∷ events) e = state-more (after_event s x) events e

run-more : (s : State) (events : List Event) (e : Event) → IsRunFrom s events → IsStep (state_from s events) e → IsRunFrom s (events ++ e ∷ [])
run-more s [] e run made = (made, tt)
run-more s (x ∷ events) e run made = (run.0, run-more (after_event s x) events e run.1 made)

-- a run that led to this state
pub record IsRunTo (g : Geometry) (events : List Event) (state : State) : Type 0 where
  pub run : IsRun g events
  pub reached : state ≡ state_after g events

pub events-push : (before : List Played) (p : Played) → events_of (before ++ p ∷ []) ≡ events_of before ++ events_of (p ∷ [])
events-push before p = filter_map-append event_of before (p ∷ [])

run-same : (g : Geometry) (events : List Event) (state after : State) → IsRunTo g events state → after ≡ state → IsRunTo g (events ++ []) after
run-same g events state after h e =
    let P : List Event → Type 0 = λ l. IsRunTo g l after in
    let Q : State → Type 0 = λ s. IsRunTo g events s in
    subst P (sym (append-nil events)) (subst Q (sym e) h)

step-of : (g : Geometry) (events : List Event) (state : State) (actor : ℕ) (action : Action) (reply : Reply) → IsRunTo g events state → IsActor g actor → Allowed state.geometry (view_of state actor) action → reply ≡ reply_to state actor action
    → IsStep (state_after g events) (record { actor = actor; action = action; reply = reply })
step-of g events state actor action reply h there allowed is =
    let P : State → Type 0 = λ s. Allowed s.geometry (view_of s actor) action in
    let A : Geometry → Type 0 = λ k. IsActor k actor in
    record {
      actor = subst A (sym (geometry-from (start g) events)) there;
      allowed = subst P h.reached allowed;
      reply = is ∙ ap (λ (s : State). reply_to s actor action) h.reached;
    }

-- the run with the event of a turn more
pub run-turn : (g : Geometry) (events : List Event) (state after : State) (lanes lanes' : PortLanes) (actor : ℕ) (turn : Turn) (heard : Heard) (ended : Bool)
    → IsRunTo g events state → IsActor g actor → IsPermittedTurn state.geometry (view_of state actor) turn → IsTurnAnswered state after lanes lanes' actor turn heard
    → IsRunTo g (events ++ events_of (record { actor = actor; turn = turn; heard = heard; ended = ended } ∷ [])) after
run-turn g events state after lanes lanes' actor (Do action) (Answer reply) ended h there allowed a =
    let e : Event = record { actor = actor; action = action; reply = reply } in
    record {
      run = run-more (start g) events e h.run (step-of g events state actor action reply h there allowed a.told);
      reached = a.step ∙ ap (λ (s : State). step s actor action) h.reached ∙ sym (state-more (start g) events e);
    }
run-turn g events state after lanes lanes' actor (Put into page) PutDone ended h there allowed a = run-same g events state after h a.state
run-turn g events state after lanes lanes' actor (Put into page) PutFull ended h there allowed a = run-same g events state after h a.state
run-turn g events state after lanes lanes' actor (Take from) (Took page) ended h there allowed a = run-same g events state after h a.state
run-turn g events state after lanes lanes' actor (Take from) TookNone ended h there allowed a = run-same g events state after h a.state
run-turn g events state after lanes lanes' actor turn heard ended h there allowed a = absurd a

-- ---- what is heard

-- what is heard answers the turn, and a reply fits
pub turn-answers : (g : Geometry) (events : List Event) (state after : State) (lanes lanes' : PortLanes) (actor : ℕ) (turn : Turn) (heard : Heard) (view : View)
    → RepliesFit → IsGeometry g → IsRunTo g events state → IsActor g actor → IsPermittedTurn state.geometry (view_of state actor) turn → IsTurnAnswered state after lanes lanes' actor turn heard
    → view_of state actor ≡ view → IsAnswer g view turn heard
turn-answers g events state after lanes lanes' actor (Do action) (Answer reply) view fits limits h there allowed a is =
    let P : View → Type 0 = λ v. Fits g v action reply in
    subst P (sym (ap (λ (s : State). view_of s actor) h.reached) ∙ is)
    (fits g events (record { actor = actor; action = action; reply = reply }) limits h.run (step-of g events state actor action reply h there allowed a.told))
turn-answers g events state after lanes lanes' actor (Put into page) PutDone view fits limits h there allowed a is = tt
turn-answers g events state after lanes lanes' actor (Put into page) PutFull view fits limits h there allowed a is = tt
turn-answers g events state after lanes lanes' actor (Take from) (Took page) view fits limits h there allowed a is = tt
turn-answers g events state after lanes lanes' actor (Take from) TookNone view fits limits h there allowed a is = tt
turn-answers g events state after lanes lanes' actor turn heard view fits limits h there allowed a is = absurd a
