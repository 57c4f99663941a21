-- The own list of an actor in the events of turns is that of its turns.
use Rattle.std.proofs.Common.{◌≡◌, ◌==◌, ℕ, Bool, true, false, cond, List, [], ◌∷◌, ◌++◌, map, refl, sym, ap, ◌∙◌}
use Rattle.std.specs.List.{filter, cons_option}
use Rattle.nm_base.specs.Geometry.{Geometry}
use Rattle.nm_action.specs.declared.action.Action.{Action}
use Rattle.nm_action.specs.declared.action.Reply.{Reply}
use Rattle.nm_action.specs.declared.action.Event.{Event}
use Rattle.nm_action.specs.declared.turn.Turn.{Turn}
use Rattle.nm_action.specs.declared.turn.Turn.TheVariants.{Do}
use Rattle.nm_action.specs.declared.turn.Heard.{Heard}
use Rattle.nm_action.specs.declared.turn.Heard.TheVariants.{Answer}
use Rattle.nm_action.specs.Own.{Own, own_of}
use Rattle.nm_view.specs.Opening.{opening, IsActor}
use Rattle.nm_event.specs.After.{view_after}
use Rattle.nm_core.specs.State.{State, view_of}
use Rattle.nm_core.specs.Runs.{IsRun, state_after}
use Rattle.nm_actor.specs.Turns.{Turns, own_turn, own_list, turns_view}
use Rattle.nm_schedule.specs.declared.turn.Played.{Played}
use Rattle.nm_schedule.specs.Played.{is_of, answered_turn, turns_by, event_by, events_of}

turns-cons : (a : ℕ) (p : Played) (played : List Played) (b : Bool) → map answered_turn (cond b (p ∷ filter (is_of a) played) (filter (is_of a) played)) ≡ cond b ((p.turn, p.heard) ∷ turns_by a played) (turns_by a played)
turns-cons a p played true = refl
turns-cons a p played false = refl

own-none : (own : Own) (turn : Turn) (heard : Heard) (turns : Turns) (b : Bool) → own_turn turn heard ≡ [] → own ≡ own_list turns → own ≡ own_list (cond b ((turn, heard) ∷ turns) turns)
own-none own turn heard turns true none h = h ∙ ap (λ (l : Own). l ++ own_list turns) (sym none)
own-none own turn heard turns false none h = h

own-two : (own : Own) (e : Action × Reply) (turn : Turn) (heard : Heard) (turns : Turns) (b : Bool) → own_turn turn heard ≡ e ∷ [] → own ≡ own_list turns → cond b (e ∷ own) own ≡ own_list (cond b ((turn, heard) ∷ turns) turns)
own-two own e turn heard turns true one h = ap (λ (l : Own). e ∷ l) h ∙ ap (λ (l : Own). l ++ own_list turns) (sym one)
own-two own e turn heard turns false one h = h

own-go : (actor a : ℕ) (turn : Turn) (heard : Heard) (events : List Event) (turns : Turns) → own_of a events ≡ own_list turns
    → own_of a (cons_option (event_by actor turn heard) events) ≡ own_list (cond (actor == a) ((turn, heard) ∷ turns) turns)
own-go actor a (Do action) (Answer reply) events turns h = own-two (own_of a events) (action, reply) (Do action) (Answer reply) turns (actor == a) refl h
own-go actor a turn heard events turns h = own-none (own_of a events) turn heard turns (actor == a) refl h

pub own-turns : (a : ℕ) (played : List Played) → own_of a (events_of played) ≡ own_list (turns_by a played)
own-turns a [] = refl
own-turns a (p ∷ played) =
    own-go p.actor a p.turn p.heard (events_of played) (turns_by a played) (own-turns a played) ∙ ap own_list (sym (turns-cons a p played (p.actor == a)))

-- so the view of an actor after a run is that of its turns
pub view-of-turns : (g : Geometry) (state : State) (played : List Played) (actor : ℕ)
    → ((g : Geometry) (events : List Event) (actor : ℕ) → IsActor g actor → IsRun g events → view_of (state_after g events) actor ≡ view_after g (opening g actor) (own_of actor events))
    → IsActor g actor → IsRun g (events_of played) → state ≡ state_after g (events_of played)
    → view_of state actor ≡ turns_view g actor (turns_by actor played)
view-of-turns g state played actor law there run is =
    ap (λ (s : State). view_of s actor) is ∙ law g (events_of played) actor there run ∙ ap (λ (l : Own). view_after g (opening g actor) l) (own-turns actor played)
